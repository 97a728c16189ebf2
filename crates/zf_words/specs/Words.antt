-- The words of the command line: which lists of words are commands.
use Rattle.std.specs.Prelude.{ℕ, ◌≡◌, ◌<◌, ◌≤◌, ◌^◌, List, [], ◌∷◌, ◌++◌, map, length, take, Option, Some, None, codes, decimal}
use Rattle.std.specs.List.{join_with_byte}
use Rattle.zf_base.specs.declared.lane.Ty.{Ty}
use Rattle.zf_base.specs.declared.lane.Ty.TheVariants.{I32, I64}
use Rattle.zf_header.specs.declared.header.Header.{Header}
use Rattle.zf_header.specs.declared.header.Mode.{Mode}
use Rattle.zf_header.specs.declared.header.Mode.TheVariants.{Reversible, Rate, Precision}
use Rattle.zf_header.specs.HeaderBits.{IsHeader, rate_bytes_of}
use Rattle.zf_narrow.specs.declared.narrow.Narrow.{Narrow}
use Rattle.zf_narrow.specs.declared.narrow.Narrow.TheVariants.{I8, U8, I16, U16}
use Rattle.zf_words.specs.Names.{IsName}
use Rattle.zf_words.specs.declared.command.Caching.{Caching}
use Rattle.zf_words.specs.declared.command.Caching.TheVariants.{Direct, TwoWay}
use Rattle.zf_words.specs.declared.command.Command.{Command}
use Rattle.zf_words.specs.declared.command.Command.TheVariants.{Compress, CompressNarrow, Restore, RestoreNarrow, Info, New, Run, Look, Bound, Sample}

-- the word of a type
abbrev pub type_word : Ty → List ℕ
type_word I32 = codes "int32"
type_word I64 = codes "int64"

-- the word of a narrow type
abbrev pub narrow_word : Narrow → List ℕ
narrow_word I8 = codes "int8"
narrow_word U8 = codes "uint8"
narrow_word I16 = codes "int16"
narrow_word U16 = codes "uint16"

-- the word of a shape: its sizes in decimal, x first, joined by the letter x
abbrev pub shape_word : List ℕ → List ℕ
shape_word ns = join_with_byte 120 (map decimal ns)

-- the words of a mode
abbrev pub mode_words : Mode → List (List ℕ)
mode_words Reversible = codes "reversible" ∷ []
mode_words (Rate b) = codes "rate" ∷ decimal b ∷ []
mode_words (Precision p) = codes "precision" ∷ decimal p ∷ []

-- the most bytes of a file
abbrev pub max_file : ℕ
max_file = 1200000000

-- the stream of a fixed rate has no more bytes than a file may have
abbrev pub FitsFile : Header → Mode → Type 0
FitsFile h Reversible = Unit {0}
FitsFile h (Rate b) = rate_bytes_of h ≤ max_file
FitsFile h (Precision p) = Unit {0}

-- what can be asked for: a type, a shape and a mode, at a rate such that the stream is not too long
pub record IsAskable (h : Header) : Type 0 where
  pub header : IsHeader h
  pub fits : FitsFile h h.mode

-- a number of lines that can be asked for, where one is
abbrev pub IsLines : Option ℕ → Type 0
IsLines None = Unit {0}
IsLines (Some l) = (1 ≤ l) × (l ≤ 65536)

-- nothing, or `lines L`
abbrev pub lines_words : Option ℕ → List (List ℕ)
lines_words None = []
lines_words (Some l) = codes "lines" ∷ decimal l ∷ []

-- a cache that can be asked for
abbrev pub IsCaching : Caching → Type 0
IsCaching (Direct lines) = IsLines lines
IsCaching (TwoWay l) = IsLines (Some l)

-- nothing, `lines L` or `twoway L`
abbrev pub caching_words : Caching → List (List ℕ)
caching_words (Direct lines) = lines_words lines
caching_words (TwoWay l) = codes "twoway" ∷ decimal l ∷ []

-- the words of a command
abbrev pub spelling : Command → List (List ℕ)
spelling (Compress h) = codes "compress" ∷ type_word h.ty ∷ shape_word h.shape ∷ mode_words h.mode
spelling (CompressNarrow n h) = codes "compress" ∷ narrow_word n ∷ shape_word h.shape ∷ mode_words h.mode
spelling Restore = codes "restore" ∷ []
spelling (RestoreNarrow n) = codes "restore" ∷ narrow_word n ∷ []
spelling Info = codes "info" ∷ []
spelling (New name ty ns b) = codes "new" ∷ name ∷ type_word ty ∷ shape_word ns ∷ decimal b ∷ []
spelling (Run name caching) = codes "run" ∷ name ∷ caching_words caching
spelling (Look name lines) = codes "look" ∷ name ∷ lines_words lines
spelling (Bound name most) = codes "bound" ∷ name ∷ decimal most ∷ []
spelling (Sample h seed) = codes "sample" ∷ type_word h.ty ∷ shape_word h.shape ∷ decimal seed ∷ mode_words h.mode

-- what a command can say: names of files, what can be asked for, and numbers of 64 bits; narrow values are
-- compressed as int32 ones
abbrev pub CanBe : Command → Type 0
CanBe (Compress h) = IsAskable h
CanBe (CompressNarrow n h) = IsAskable h × (h.ty ≡ I32)
CanBe (New name ty ns b) = IsName name × IsAskable (record { ty = ty; shape = ns; mode = Rate b })
CanBe (Run name caching) = IsName name × IsCaching caching
CanBe (Look name lines) = IsName name × IsLines lines
CanBe (Bound name most) = IsName name × (most < 2 ^ 64)
CanBe (Sample h seed) = IsAskable h × (seed < 2 ^ 64)
CanBe c = Unit {0}

-- these words are the command
abbrev pub IsSpelled : Command → List (List ℕ) → Type 0
IsSpelled c words = CanBe c × (words ≡ spelling c)

-- some command begins with these words
abbrev pub BeginsCommand : List (List ℕ) → Type 0
BeginsCommand words = (c : Command) × (rest : List (List ℕ)) × IsSpelled c (words ++ rest)

-- the words are no command, and the first k of them are the most that begin one
pub record IsUsage (words : List (List ℕ)) (k : ℕ) : Type 0 where
  pub no_command : (c : Command) → IsSpelled c words → ⊥
  pub within : k ≤ length words
  pub begins : BeginsCommand (take k words)
  pub longest : (n : ℕ) → k < n → n ≤ length words → BeginsCommand (take n words) → ⊥
