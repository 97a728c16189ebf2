-- How far a list of words has come on the way to a command.
use Rattle.std.specs.Prelude.{ℕ, ◌≡◌, ◌<◌, ◌≤◌, ◌^◌, List, [], ◌∷◌, ◌++◌, Option, Some, codes, decimal}
use Rattle.zf_spec.specs.Grid.{IsShape}
use Rattle.zf_base.specs.declared.lane.Ty.{Ty}
use Rattle.zf_base.specs.declared.lane.Ty.TheVariants.{I32}
use Rattle.zf_header.specs.declared.header.Header.{Header}
use Rattle.zf_header.specs.declared.header.Mode.TheVariants.{Rate, Precision}
use Rattle.zf_header.specs.HeaderBits.{IsRate, IsMode, rate_bytes_of}
use Rattle.zf_words.specs.Names.{IsName}
use Rattle.zf_words.specs.declared.command.Caching.TheVariants.{Direct}
use Rattle.zf_words.specs.declared.command.Command.{Command}
use Rattle.zf_words.specs.declared.command.Command.TheVariants as commands
use Rattle.zf_words.specs.declared.words.Task.{Task}
use Rattle.zf_words.specs.declared.words.Task.TheVariants as tasks
use Rattle.zf_words.specs.declared.words.Script.{Script}
use Rattle.zf_words.specs.declared.words.Script.TheVariants as scripts
use Rattle.zf_words.specs.declared.words.Stage.{Stage}
use Rattle.zf_words.specs.declared.words.Stage.TheVariants as stages
use Rattle.zf_words.specs.Words.{type_word, narrow_word, shape_word, max_file, IsLines, IsSpelled}

-- narrow values stand for int32 ones, and the number that an array is made of has 64 bits
abbrev pub IsTask : Task → Ty → Type 0
IsTask tasks.Compress ty = Unit {0}
IsTask (tasks.CompressNarrow n) ty = ty ≡ I32
IsTask (tasks.Sample seed) ty = seed < 2 ^ 64

-- the words of a task before those of the mode
abbrev pub task_words : Task → Ty → List ℕ → List (List ℕ)
task_words tasks.Compress ty shape = codes "compress" ∷ type_word ty ∷ shape_word shape ∷ []
task_words (tasks.CompressNarrow n) ty shape = codes "compress" ∷ narrow_word n ∷ shape_word shape ∷ []
task_words (tasks.Sample seed) ty shape = codes "sample" ∷ type_word ty ∷ shape_word shape ∷ decimal seed ∷ []

-- the command that does a task with the arrays of a header
abbrev pub command_of : Task → Header → Command
command_of tasks.Compress h = commands.Compress h
command_of (tasks.CompressNarrow n) h = commands.CompressNarrow n h
command_of (tasks.Sample seed) h = commands.Sample h seed

-- the first word of a command on a script
abbrev pub script_word : Script → List ℕ
script_word scripts.Run = codes "run"
script_word scripts.Look = codes "look"

-- the command on a script with the file of this name, where each block has one line
abbrev pub script_command : Script → List ℕ → Option ℕ → Command
script_command scripts.Run name lines = commands.Run name (Direct lines)
script_command scripts.Look name lines = commands.Look name lines

-- these words begin a task for arrays of this type and shape, and then those behind follow
pub record IsBegun (task : Task) (ty : Ty) (shape : List ℕ) (behind : List (List ℕ)) (words : List (List ℕ))
    : Type 0 where
  pub task_is : IsTask task ty
  pub shape_is : IsShape shape
  pub words_are : words ≡ task_words task ty shape ++ behind

-- these words lead to the stage
abbrev pub LeadsTo : List (List ℕ) → Stage → Type 0
LeadsTo words stages.Start = words ≡ []
LeadsTo words stages.Compressing = words ≡ codes "compress" ∷ []
LeadsTo words (stages.Typed ty) = words ≡ codes "compress" ∷ type_word ty ∷ []
LeadsTo words (stages.TypedNarrow n) = words ≡ codes "compress" ∷ narrow_word n ∷ []
LeadsTo words stages.Sampling = words ≡ codes "sample" ∷ []
LeadsTo words (stages.SampleTyped ty) = words ≡ codes "sample" ∷ type_word ty ∷ []
LeadsTo words (stages.SampleShaped ty shape) = IsShape shape × (words ≡ codes "sample" ∷ type_word ty ∷ shape_word shape ∷ [])
LeadsTo words (stages.Shaped task ty shape) = IsBegun task ty shape [] words
LeadsTo words (stages.AtRate task ty shape) = IsBegun task ty shape (codes "rate" ∷ []) words
LeadsTo words (stages.AtPrecision task ty shape) = IsBegun task ty shape (codes "precision" ∷ []) words
LeadsTo words stages.Making = words ≡ codes "new" ∷ []
LeadsTo words (stages.Named name) = IsName name × (words ≡ codes "new" ∷ name ∷ [])
LeadsTo words (stages.NamedTyped name ty) = IsName name × (words ≡ codes "new" ∷ name ∷ type_word ty ∷ [])
LeadsTo words (stages.NamedShaped name ty shape) = IsName name × IsShape shape × (words ≡ codes "new" ∷ name ∷ type_word ty ∷ shape_word shape ∷ [])
LeadsTo words (stages.Scripting script) = words ≡ script_word script ∷ []
LeadsTo words (stages.AtLines script name) = IsName name × (words ≡ script_word script ∷ name ∷ codes "lines" ∷ [])
LeadsTo words (stages.AtTwoWay name) = IsName name × (words ≡ codes "run" ∷ name ∷ codes "twoway" ∷ [])
LeadsTo words stages.Bounding = words ≡ codes "bound" ∷ []
LeadsTo words (stages.AtMost name) = IsName name × (words ≡ codes "bound" ∷ name ∷ [])
LeadsTo words (stages.Whole c) = IsSpelled c words

-- the word is the bits of a block, and the stream of such an array is not too long
pub record IsRateWord (ty : Ty) (shape : List ℕ) (b : ℕ) (word : List ℕ) : Type 0 where
  pub rate : IsRate (Rate b)
  pub fits : rate_bytes_of (record { ty = ty; shape = shape; mode = Rate b }) ≤ max_file
  pub text : word ≡ decimal b

-- the word is a number of lines
pub record IsLinesWord (l : ℕ) (word : List ℕ) : Type 0 where
  pub lines : IsLines (Some l)
  pub text : word ≡ decimal l

-- the word is a number of planes
pub record IsPrecisionWord (p : ℕ) (word : List ℕ) : Type 0 where
  pub planes : IsMode (Precision p)
  pub text : word ≡ decimal p
