-- Words that are a command are one command's.
use Rattle.std.proofs.Common.{rules, ◌≡◌, ℕ, ◌+◌, ◌*◌, ◌<◌, ◌≤◌, ◌^◌, List, [], ◌∷◌, ◌++◌, map, length, get_or, take, drop, Option, Some, None, IfNone, codes, eqb, decimal, refl, ap, sym, subst, ◌∙◌, arith, append_assoc}
use Rattle.std.{specs.Str.{bytes_eq}, proofs.lemmas.Bool.{true≢false}, proofs.lemmas.Fmt.{decimal_injective}}
use Rattle.std.proofs.lemmas.List.{take-append-drop, take-take, take_all, take-map, map_more}
use Rattle.zf_base.{specs.declared.lane.Ty.{Ty}}
use Rattle.zf_spec.specs.Grid.{IsShape}
use Rattle.zf_narrow.{specs.declared.narrow.Narrow.{Narrow}}
use Rattle.zf_header.{specs.declared.header.Header.{Header}, specs.declared.header.Mode.{Mode}}
use Rattle.zf_header.specs.declared.header.Mode.TheVariants.{Reversible, Rate, Precision}
use Rattle.zf_header.specs.HeaderBits.{IsMode}
use Rattle.zf_words.{specs.declared.command.Caching.{Caching}, specs.declared.command.Command.{Command}}
use Rattle.zf_words.specs.declared.command.Caching.TheVariants.{Direct, TwoWay}
use Rattle.zf_words.specs.declared.command.Command.TheVariants.{Compress, CompressNarrow, Restore, RestoreNarrow, Info, New, Run, Look, Bound, Sample}
use Rattle.zf_words.{specs.declared.words.Task.{Task}}
use Rattle.zf_words.{specs.declared.words.Stage.{Stage}, proofs.Completed.{header_with, BeginsCommand-reached}}
use Rattle.zf_words.specs.Words.{type_word, narrow_word, shape_word, mode_words, IsLines, lines_words, IsCaching, caching_words, IsAskable, spelling, IsSpelled, BeginsCommand, IsUsage}
use Rattle.zf_words.specs.Stages.{LeadsTo, IsBegun, IsRateWord, IsLinesWord, IsPrecisionWord}
use Rattle.zf_words.proofs.ShapeWords.{parts_of-shape, decimals_injective, sizes_small}
use Rattle.zf_words.specs.declared.words.Task.TheVariants as tasks
use Rattle.zf_words.specs.declared.words.Stage.TheVariants as stages

-- ---- different types, shapes and modes have different words
pub type_word_injective : (s t : Ty) → type_word s ≡ type_word t → s ≡ t
type_word_injective _ _ same = search rules

-- the fourth letter tells the narrow types from the others, the length and the first letter tell them apart
type_not_narrow : (ty : Ty) (n : Narrow) → type_word ty ≡ narrow_word n → ⊥
type_not_narrow ty n same = search rules

narrow_word_injective : (m n : Narrow) → narrow_word m ≡ narrow_word n → m ≡ n
narrow_word_injective m n same = search rules

pub shape_word_injective : (ms ns : List ℕ) → IsShape ms → IsShape ns → shape_word ms ≡ shape_word ns → ms ≡ ns
shape_word_injective ms ns m n same =
    decimals_injective ms ns (sizes_small ms m) (sizes_small ns n) (sym (parts_of-shape (shape_word ms) ms m refl) ∙ parts_of-shape (shape_word ms) ns n same)

heads_same : {x y : List ℕ} {xs ys : List (List ℕ)} → x ∷ xs ≡ y ∷ ys → x ≡ y
heads_same same = cc

pub mode_words_injective : (l m : Mode) → IsMode l → IsMode m → mode_words l ≡ mode_words m → l ≡ m
mode_words_injective Reversible Reversible a b same = refl
mode_words_injective (Rate n) (Precision q) a b same = absurd (true≢false (ap (bytes_eq (codes "rate")) (heads_same same)))
mode_words_injective (Precision p) (Rate n) a b same = absurd (true≢false (ap (bytes_eq (codes "precision")) (heads_same same)))
mode_words_injective l m a b same = search (rules, decimal_injective)

same_header : (g h : Header) → g.ty ≡ h.ty → g.shape ≡ h.shape → g.mode ≡ h.mode → g ≡ h
same_header g h ty shape mode =
    ap (λ t. header_with t g.shape g.mode) ty ∙ (ap (λ ns. header_with h.ty ns g.mode) shape ∙ ap (λ m. header_with h.ty h.shape m) mode)

pub lines_words_injective : (l m : Option ℕ) → IsLines l → IsLines m → lines_words l ≡ lines_words m → l ≡ m
lines_words_injective None None a b same = refl
lines_words_injective l m a b same = search (rules, decimal_injective)

pub caching_words_injective : (k l : Caching) → IsCaching k → IsCaching l → caching_words k ≡ caching_words l → k ≡ l
caching_words_injective (Direct k) (Direct l) a b same = ap Direct (lines_words_injective k l a b same)
caching_words_injective (Direct (Some k)) (TwoWay l) a b same = absurd (omega (arith, ap length (heads_same same)))
caching_words_injective (TwoWay k) (Direct (Some l)) a b same = absurd (omega (arith, ap length (heads_same same)))
caching_words_injective (TwoWay k) (TwoWay l) a b same = search (rules, decimal_injective)
caching_words_injective _ _ a b same = absurd (omega (arith, ap length same))

-- ---- the first word tells a command from the others
abbrev first_word : Command → List ℕ
first_word c = get_or (spelling c) 0 []

begins_with : (c : Command) (words : List (List ℕ)) → IsSpelled c words → (rest : List (List ℕ)) × (words ≡ first_word c ∷ rest)
begins_with c words spelled = (drop 1 (spelling c), spelled.1 ∙ begins c)
  where
    begins : (d : Command) → spelling d ≡ first_word d ∷ drop 1 (spelling d)
    begins d = search rules

-- the first words differ in their length or in their first letter
mark : List ℕ → ℕ
mark word = 256 * length word + get_or word 0 0

mark_of : (c : Command) (words : List (List ℕ)) (word : List ℕ) (rest : List (List ℕ)) → words ≡ word ∷ rest → IsSpelled c words → mark (first_word c) ≡ mark word
mark_of c words word rest is spelled = ap mark (heads_same (sym (begins_with c words spelled).1 ∙ is))

same_mark : (c d : Command) (words : List (List ℕ)) → IsSpelled c words → IsSpelled d words → mark (first_word c) ≡ mark (first_word d)
same_mark c d words a b = let other = begins_with d words b in mark_of c words (first_word d) other.0 other.1 a

-- what is asked for is told by its words
same_asked : (g h : Header) → IsAskable g → IsAskable h → g.ty ≡ h.ty → shape_word g.shape ≡ shape_word h.shape → mode_words g.mode ≡ mode_words h.mode → g ≡ h
same_asked g h a b ty shape mode =
    same_header g h ty (shape_word_injective g.shape h.shape a.header.shape b.header.shape shape) (mode_words_injective g.mode h.mode a.header.mode b.header.mode mode)

-- words are those of one command at most
pub one_command : (words : List (List ℕ)) (c d : Command) → IsSpelled c words → IsSpelled d words → c ≡ d
unfolding mark
one_command words (Compress g) (Compress h) a b =
    cc (same_asked g h a.0 b.0 (type_word_injective g.ty h.ty (cc)) (cc) (cc))
one_command words (CompressNarrow m g) (CompressNarrow n h) a b =
    cc (same_asked g h a.0.0 b.0.0 (a.0.1 ∙ sym b.0.1) (cc) (cc), narrow_word_injective m n (cc))
one_command words (Compress g) (CompressNarrow n h) a b = search (rules, type_not_narrow)
one_command words (CompressNarrow n g) (Compress h) a b = search (rules, type_not_narrow)
one_command words (New name ty ns b) (New name' ty' ns' b') a d =
    let same_type = type_word_injective ty ty' (cc) in
    let same_shape = shape_word_injective ns ns' a.0.1.header.shape d.0.1.header.shape (cc) in
    let same_bits = decimal_injective b b' (omega (arith, a.0.1.header.mode.1)) (omega (arith, d.0.1.header.mode.1)) (cc) in
    cc
one_command words (Sample g n) (Sample h m) a b =
    cc (same_asked g h a.0.0 b.0.0 (type_word_injective g.ty h.ty (cc)) (cc) (cc), decimal_injective n m a.0.1 b.0.1 (cc))
one_command words (Run n k) (Run m l) a b = cc (caching_words_injective k l a.0.1 b.0.1 (cc))
one_command words (Look n k) (Look m l) a b = cc (lines_words_injective k l a.0.1 b.0.1 (cc))
one_command words (Bound n k) (Bound m l) a b = cc (decimal_injective k l a.0.1 b.0.1 (cc))
one_command words (RestoreNarrow m) (RestoreNarrow n) a b = cc (narrow_word_injective m n (cc))
one_command words Restore (RestoreNarrow n) a b = absurd (omega (arith, ap length (sym a.1 ∙ b.1)))
one_command words (RestoreNarrow m) Restore a b = absurd (omega (arith, ap length (sym a.1 ∙ b.1)))
one_command words Restore Restore a b = refl
one_command words Info Info a b = refl
one_command words c d a b = absurd (true≢false (ap (eqb (mark (first_word c))) (same_mark c d words a b)))

-- ---- prefixes of commands
pub BeginsCommand-prefix : (words rest : List (List ℕ)) → BeginsCommand (words ++ rest) → BeginsCommand words
BeginsCommand-prefix words rest begins =
    (begins.0, rest ++ begins.1, subst (IsSpelled begins.0) (append_assoc words rest begins.1) begins.2)

pub BeginsCommand-spelled : (c : Command) (words : List (List ℕ)) (k : ℕ) → IsSpelled c words → BeginsCommand (take k words)
BeginsCommand-spelled c words k spelled = (c, drop k words, subst (IsSpelled c) (sym (take-append-drop k words)) spelled)

-- what begins no command begins none with more words
pub BeginsCommand-shorter : (words : List (List ℕ)) (k n : ℕ) → k ≤ n → BeginsCommand (take n words) → BeginsCommand (take k words)
BeginsCommand-shorter words k n le begins =
    let parts : take k words ++ drop k (take n words) ≡ take n words =
    ap (λ prefix. prefix ++ drop k (take n words)) (sym (take-take k n words le)) ∙ take-append-drop k (take n words) in
    BeginsCommand-prefix (take k words) (drop k (take n words)) (subst BeginsCommand (sym parts) begins)

-- ---- where the words stop
pub IsUsage-stopped : (words : List (List ℕ)) (k : ℕ) (stage : Stage) → k < length words → LeadsTo (take k words) stage → (BeginsCommand (take (k + 1) words) → ⊥) → IsUsage words k
IsUsage-stopped words k stage lt leads stop = record {
  no_command = λ c spelled. stop (BeginsCommand-spelled c words (k + 1) spelled);
  within = omega arith;
  begins = BeginsCommand-reached (take k words) stage leads;
  longest = λ n above within begins. stop (BeginsCommand-shorter words (k + 1) n (omega arith) begins);
}

-- what is asked for where the words begin a task
record IsAsked (ty : Ty) (ns : List ℕ) (behind : List (List ℕ)) : Type 0 where
  mode : Mode
  askable : IsAskable (header_with ty ns mode)
  behind_is : behind ≡ mode_words mode

asked : (h : Header) (ty : Ty) (ns : List ℕ) (behind : List (List ℕ)) → IsAskable h → IsShape ns → h.ty ≡ ty → shape_word h.shape ≡ shape_word ns → behind ≡ mode_words h.mode → IsAsked ty ns behind
asked h ty ns behind askable shape same_type shape_text is = search (rules, same_header, header_with, shape_word_injective)

-- words that begin a task are those of its command, and end with a mode
IsAsked-begun : (task : Task) (ty : Ty) (ns : List ℕ) (behind words : List (List ℕ)) (c : Command) → IsBegun task ty ns behind words → IsSpelled c words → IsAsked ty ns behind
unfolding mark
IsAsked-begun tasks.Compress ty ns behind words (Compress h) begun spelled =
    search (rules, asked, type_word_injective)
IsAsked-begun (tasks.CompressNarrow n) ty ns behind words (CompressNarrow m h) begun spelled = search (rules, asked)
IsAsked-begun tasks.Compress ty ns behind words (CompressNarrow m h) begun spelled =
    search (rules, type_not_narrow)
IsAsked-begun (tasks.CompressNarrow n) ty ns behind words (Compress h) begun spelled = search (rules, type_not_narrow)
IsAsked-begun (tasks.Sample n) ty ns behind words (Sample h seed) begun spelled = search (rules, asked, type_word_injective)
IsAsked-begun task ty ns behind words c begun spelled =
    absurd (omega (arith, mark_of c words _ _ begun.words_are spelled))

-- one word more behind those that begin a task, and what follows it
IsBegun-more : (task : Task) (ty : Ty) (ns : List ℕ) (behind words : List (List ℕ)) (word : List ℕ) (rest : List (List ℕ)) → IsBegun task ty ns behind words → IsBegun task ty ns (behind ++ word ∷ rest) ((words ++ word ∷ []) ++ rest)
IsBegun-more task ty ns behind words word rest begun = search (rules, append_assoc)

-- what leads on behind no words of a command leads on behind no words of the same
pub none_behind : (c d : Command) (word : List ℕ) (next : Option Stage) → c ≡ d → IfNone next ((words : List (List ℕ)) → IsSpelled d words → BeginsCommand (words ++ word ∷ []) → ⊥) → IfNone next ((words : List (List ℕ)) → IsSpelled c words → BeginsCommand (words ++ word ∷ []) → ⊥)
none_behind c d word next same none =
    subst (λ e. IfNone next ((words : List (List ℕ)) → IsSpelled e words → BeginsCommand (words ++ word ∷ []) → ⊥)) (sym same) none

-- the number of such a word
pub IsLinesWord-number : (l n : ℕ) (word : List ℕ) → IsLinesWord l word → n < 2 ^ 64 → word ≡ decimal n → l ≡ n
IsLinesWord-number l n word is small text = decimal_injective l n (omega (arith, is.lines.1)) small (sym is.text ∙ text)

-- a whole command leads to its stage alone
whole_at_end : (words : List (List ℕ)) (stage : Stage) (c : Command) → LeadsTo words stage → IsSpelled c words → (d : Command) × (stage ≡ stages.Whole d)
whole_at_end words (stages.Whole d) c leads spelled = (d, refl)
whole_at_end words stage c leads spelled = search rules

pub IsUsage-ended : (words : List (List ℕ)) (n : ℕ) (stage : Stage) → n ≡ length words → LeadsTo words stage → ((d : Command) → stage ≡ stages.Whole d → ⊥) → IsUsage words n
IsUsage-ended words n stage all leads not_whole = record {
  no_command = λ c spelled. let whole = whole_at_end words stage c leads spelled in not_whole whole.0 whole.1;
  within = omega arith;
  begins = subst BeginsCommand (sym (take_all n words (omega arith))) (BeginsCommand-reached words stage leads);
  longest = λ m above within begins. omega arith;
}

-- one word more
pub word_more : {X : Type 0} (text : X → List ℕ) (xs : List X) (i : ℕ) (x : X) (word : List ℕ) → i < length xs → x ≡ get_or xs i x → word ≡ text x → take (i + 1) (map text xs) ≡ take i (map text xs) ++ word ∷ []
word_more text xs i x word lt is same = search (rules, take-map, map_more)

-- ---- rates
rate_behind : (ty : Ty) (ns : List ℕ) (m : Mode) (word : List ℕ) (rest : List (List ℕ)) → IsAskable (header_with ty ns m) → codes "rate" ∷ word ∷ rest ≡ mode_words m → (b : ℕ) × IsRateWord ty ns b word
rate_behind ty ns _ word rest askable same = search rules

-- a word at the place of a rate, where a command goes on, is a rate
pub IsRateWord-begun : (task : Task) (words : List (List ℕ)) (ty : Ty) (ns : List ℕ) (word : List ℕ) → LeadsTo words (stages.AtRate task ty ns) → BeginsCommand (words ++ word ∷ []) → (b : ℕ) × IsRateWord ty ns b word
IsRateWord-begun task words ty ns word leads (c, rest, spelled) =
    let is = IsAsked-begun task ty ns (codes "rate" ∷ word ∷ rest) ((words ++ word ∷ []) ++ rest) c (IsBegun-more task ty ns (codes "rate" ∷ []) words word rest leads) spelled in
    rate_behind ty ns is.mode word rest is.askable is.behind_is

-- and so it is behind the shape of an array to be made
pub IsRateWord-begun_new : (words : List (List ℕ)) (name : List ℕ) (ty : Ty) (ns : List ℕ) (word : List ℕ) → LeadsTo words (stages.NamedShaped name ty ns) → BeginsCommand (words ++ word ∷ []) → (b : ℕ) × IsRateWord ty ns b word
unfolding mark
IsRateWord-begun_new words name ty ns word leads (New n t s k, rest, spelled) =
    let type_text : type_word t ≡ type_word ty = cc in
    let shape_text : shape_word s ≡ shape_word ns = cc in
    let text : word ≡ decimal k = cc in
    let asked = spelled.0.1 in
    let shape = shape_word_injective s ns asked.header.shape leads.1 shape_text in
    let found : IsRateWord t s k word = record { rate = asked.header.mode; fits = asked.fits; text = text } in
    (k, subst (λ u. IsRateWord u ns k word) (type_word_injective t ty type_text) (subst (λ ms. IsRateWord t ms k word) shape found))
IsRateWord-begun_new words name ty ns word leads (c, rest, spelled) =
    absurd (omega (arith, mark_of c ((words ++ word ∷ []) ++ rest) (codes "new") (name ∷ type_word ty ∷ shape_word ns ∷ word ∷ rest) (ap (λ prefix. (prefix ++ word ∷ []) ++ rest) leads.2) spelled))

-- the number of such a word
pub IsRateWord-number : (ty : Ty) (ns : List ℕ) (b n : ℕ) (word : List ℕ) → IsRateWord ty ns b word → n < 2 ^ 64 → word ≡ decimal n → b ≡ n
IsRateWord-number ty ns b n word is small text =
    decimal_injective b n (omega (arith, is.rate.1)) small (sym is.text ∙ text)

-- ---- precisions
-- the number of such a word
pub IsPrecisionWord-number : (p n : ℕ) (word : List ℕ) → IsPrecisionWord p word → n < 2 ^ 64 → word ≡ decimal n → p ≡ n
IsPrecisionWord-number p n word is small text =
    decimal_injective p n (omega (arith, is.planes.1)) small (sym is.text ∙ text)
