-- Each stage that is reached can be completed to a command.
use Rattle.std.proofs.Common.{rules, ◌∙◌, ◌≡◌, ℕ, ◌≤◌, List, [], ◌∷◌, ◌++◌, Option, Some, None, refl, ap, sym, subst, arith, lit≤, lit<}
use Rattle.std.proofs.lemmas.List.{append-nil}
use Rattle.zf_base.{specs.declared.lane.Ty.{Ty}, specs.declared.lane.Ty.TheVariants.{I32}}
use Rattle.zf_base.proofs.Sizes.{blocks_le}
use Rattle.zf_spec.specs.Grid.{IsShape}
use Rattle.zf_header.{specs.declared.header.Header.{Header}, specs.declared.header.Mode.{Mode}}
use Rattle.zf_header.specs.declared.header.Mode.TheVariants.{Reversible, Rate, Precision}
use Rattle.zf_header.{specs.HeaderBits.{rate_bytes_of}, proofs.Parts.{length-header_bits}}
use Rattle.zf_words.{specs.Names.{IsName}, specs.declared.command.Caching.TheVariants.{TwoWay}, specs.declared.command.Command.{Command}}
use Rattle.zf_words.specs.declared.command.Command.TheVariants.{Compress, CompressNarrow, Info, New, Run, Bound, Sample}
use Rattle.zf_words.{specs.declared.words.Task.{Task}, specs.declared.words.Script.{Script}}
use Rattle.zf_words.specs.declared.words.Stage.{Stage}
use Rattle.zf_words.specs.Words.{mode_words, IsLines, lines_words, IsAskable, CanBe, spelling, IsSpelled, BeginsCommand}
use Rattle.zf_words.specs.Stages.{IsTask, IsBegun, task_words, command_of, script_word, script_command, LeadsTo}
use Rattle.zf_words.specs.declared.words.Task.TheVariants as tasks
use Rattle.zf_words.specs.declared.words.Script.TheVariants as scripts
use Rattle.zf_words.specs.declared.words.Stage.TheVariants as stages

-- a header by its parts
abbrev pub header_with : Ty → List ℕ → Mode → Header
header_with ty ns mode = record { ty = ty; shape = ns; mode = mode }

-- one value is a shape
pub one_value : IsShape (1 ∷ [])
one_value = search rules

askable_reversible : (ty : Ty) (ns : List ℕ) → IsShape ns → IsAskable (header_with ty ns Reversible)
askable_reversible ty ns shape = record { header = record { shape = shape; mode = tt }; fits = tt }

-- the rate of one bit fits every shape
rate_one_fits : (ty : Ty) (ns : List ℕ) → IsShape ns → rate_bytes_of (header_with ty ns (Rate 1)) ≤ 1200000000
rate_one_fits ty ns shape =
    omega (arith, length-header_bits (header_with ty ns (Rate 1)) shape, blocks_le ns shape.not_zero, shape.not_too_large)

askable_rate_one : (ty : Ty) (ns : List ℕ) → IsShape ns → IsAskable (header_with ty ns (Rate 1))
askable_rate_one ty ns shape = record { header = record { shape = shape; mode = (lit≤ tt, lit≤ tt) }; fits = rate_one_fits ty ns shape }

askable_precision_one : (ty : Ty) (ns : List ℕ) → IsShape ns → IsAskable (header_with ty ns (Precision 1))
askable_precision_one ty ns shape = record { header = record { shape = shape; mode = (lit≤ tt, lit≤ tt) }; fits = tt }

-- the words of a task and of a mode are its command
pub IsSpelled-task : (task : Task) (h : Header) (words : List (List ℕ)) → IsTask task h.ty → IsAskable h → words ≡ task_words task h.ty h.shape ++ mode_words h.mode → IsSpelled (command_of task h) words
IsSpelled-task tasks.Compress h words task askable is = (askable, is)
IsSpelled-task (tasks.CompressNarrow n) h words task askable is = ((askable, task), is)
IsSpelled-task (tasks.Sample seed) h words task askable is = ((askable, task), is)

-- and so are words that begin a task, and those of a mode behind them
pub IsSpelled-begun : (task : Task) (h : Header) (prefix behind words : List (List ℕ)) → IsBegun task h.ty h.shape prefix words → IsAskable h → mode_words h.mode ≡ prefix ++ behind → IsSpelled (command_of task h) (words ++ behind)
IsSpelled-begun task h prefix behind words begun askable is = search (rules, IsSpelled-task)

-- one letter is a name
one_letter : IsName (97 ∷ [])
one_letter = record { begins = refl; letters = refl; short = lit≤ tt }

-- a script can be run on a file, or looks at it
pub IsSpelled-script : (script : Script) (name : List ℕ) (lines : Option ℕ) (words : List (List ℕ)) → IsName name → IsLines lines → words ≡ script_word script ∷ name ∷ lines_words lines → IsSpelled (script_command script name lines) words
IsSpelled-script scripts.Run name lines words named in_range is = ((named, in_range), is)
IsSpelled-script scripts.Look name lines words named in_range is = ((named, in_range), is)

-- words that are all but the last ones of a command begin it
begins : (c : Command) (words prefix rest : List (List ℕ)) → CanBe c → words ≡ prefix → prefix ++ rest ≡ spelling c → BeginsCommand words
begins c words prefix rest can is whole = (c, rest, (can, ap (λ p. p ++ rest) is ∙ whole))

begins_task : (task : Task) (ty : Ty) (ns : List ℕ) (m : Mode) (words prefix behind : List (List ℕ))
    → IsBegun task ty ns prefix words
    → IsAskable (header_with ty ns m) → mode_words m ≡ prefix ++ behind → BeginsCommand words
begins_task task ty ns m words prefix behind begun askable is =
    let h = header_with ty ns m in
    (command_of task h, behind, IsSpelled-begun task h prefix behind words begun askable is)

begins_new : (name : List ℕ) (ty : Ty) (ns : List ℕ) (words prefix rest : List (List ℕ)) → IsName name
    → IsShape ns → words ≡ prefix → prefix ++ rest ≡ spelling (New name ty ns 1) → BeginsCommand words
begins_new name ty ns words prefix rest named shape is whole =
    begins (New name ty ns 1) words prefix rest (named, askable_rate_one ty ns shape) is whole

begins_script : (script : Script) (name : List ℕ) (lines : Option ℕ) (words prefix rest : List (List ℕ))
    → IsName name → IsLines lines
    → words ≡ prefix → prefix ++ rest ≡ script_word script ∷ name ∷ lines_words lines → BeginsCommand words
begins_script script name lines words prefix rest named in_range is whole =
    let words_are = ap (λ p. p ++ rest) is ∙ whole in
    (script_command script name lines, rest, IsSpelled-script script name lines (words ++ rest) named in_range words_are)

begins_sample : (ty : Ty) (ns : List ℕ) (words prefix rest : List (List ℕ)) → IsShape ns → words ≡ prefix
    → prefix ++ rest ≡ spelling (Sample (header_with ty ns Reversible) 0) → BeginsCommand words
begins_sample ty ns words prefix rest shape is whole =
    begins (Sample (header_with ty ns Reversible) 0) words prefix rest (askable_reversible ty ns shape, lit< tt) is whole

-- the words that lead to a stage begin a command
pub BeginsCommand-reached : (words : List (List ℕ)) (stage : Stage) → LeadsTo words stage → BeginsCommand words
BeginsCommand-reached words stages.Start is = begins Info words _ _ tt is refl
BeginsCommand-reached words stages.Compressing is =
    begins (Compress (header_with I32 (1 ∷ []) Reversible)) words _ _ (askable_reversible I32 (1 ∷ []) one_value) is refl
BeginsCommand-reached words (stages.Typed ty) is =
    begins (Compress (header_with ty (1 ∷ []) Reversible)) words _ _ (askable_reversible ty (1 ∷ []) one_value) is refl
BeginsCommand-reached words (stages.TypedNarrow n) is =
    begins (CompressNarrow n (header_with I32 (1 ∷ []) Reversible)) words _ _ (askable_reversible I32 (1 ∷ []) one_value, refl) is refl
BeginsCommand-reached words stages.Sampling is = begins_sample I32 (1 ∷ []) words _ _ one_value is refl
BeginsCommand-reached words (stages.SampleTyped ty) is = begins_sample ty (1 ∷ []) words _ _ one_value is refl
BeginsCommand-reached words (stages.SampleShaped ty ns) leads =
    begins_sample ty ns words _ _ leads.0 leads.1 refl
BeginsCommand-reached words (stages.Shaped task ty ns) leads =
    begins_task task ty ns Reversible words _ _ leads (askable_reversible ty ns leads.shape_is) refl
BeginsCommand-reached words (stages.AtRate task ty ns) leads =
    begins_task task ty ns (Rate 1) words _ _ leads (askable_rate_one ty ns leads.shape_is) refl
BeginsCommand-reached words (stages.AtPrecision task ty ns) leads =
    begins_task task ty ns (Precision 1) words _ _ leads (askable_precision_one ty ns leads.shape_is) refl
BeginsCommand-reached words stages.Making is =
    begins_new (97 ∷ []) I32 (1 ∷ []) words _ _ one_letter one_value is refl
BeginsCommand-reached words (stages.Named name) leads =
    begins_new name I32 (1 ∷ []) words _ _ leads.0 one_value leads.1 refl
BeginsCommand-reached words (stages.NamedTyped name ty) leads =
    begins_new name ty (1 ∷ []) words _ _ leads.0 one_value leads.1 refl
BeginsCommand-reached words (stages.NamedShaped name ty ns) leads =
    begins_new name ty ns words _ _ leads.0 leads.1 leads.2 refl
BeginsCommand-reached words (stages.Scripting script) is =
    begins_script script (97 ∷ []) None words _ _ one_letter tt is refl
BeginsCommand-reached words (stages.AtLines script name) leads =
    begins_script script name (Some 1) words _ _ leads.0 (lit≤ tt, lit≤ tt) leads.1 refl
BeginsCommand-reached words (stages.AtTwoWay name) leads =
    begins (Run name (TwoWay 1)) words _ _ (leads.0, (lit≤ tt, lit≤ tt)) leads.1 refl
BeginsCommand-reached words stages.Bounding is =
    begins (Bound (97 ∷ []) 0) words _ _ (one_letter, lit< tt) is refl
BeginsCommand-reached words (stages.AtMost name) leads =
    begins (Bound name 0) words _ _ (leads.0, lit< tt) leads.1 refl
BeginsCommand-reached words (stages.Whole c) spelled =
    (c, [], subst (IsSpelled c) (sym (append-nil words)) spelled)
