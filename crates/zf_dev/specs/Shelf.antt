-- What a shelf holds: files by name, `Some` where the shelf exposes them, and it then goes on exposing them.
use Rattle.std.specs.Prelude.{◌≡◌, ◌≢◌, ℕ, ◌<◌, ◌≤◌, List, length, take, Bool, true, false, Option, Some, None, Result, Ok, Err, Vec, vec_items}
use Rattle.zf_dev.specs.declared.faults.LoadError.{LoadError}
use Rattle.zf_dev.specs.declared.faults.LoadError.TheVariants.{Missing, Long, Failed, Memory}

-- the bytes under each name, none where there is no such file
abbrev pub Files : Type 0
Files = List ℕ → Option (List ℕ)

-- the file of this name has these bytes
abbrev pub HasFile : Option Files → List ℕ → List ℕ → Type 0
HasFile None name bytes = Unit {0}
HasFile (Some files) name bytes = files name ≡ Some bytes

-- there is no file of this name
abbrev pub LacksFile : Option Files → List ℕ → Type 0
LacksFile None name = Unit {0}
LacksFile (Some files) name = files name ≡ None

-- the file of this name has at most `max` bytes, and begins with these: `count` bytes, or all where it has fewer
abbrev pub HasFront : Option Files → List ℕ → ℕ → ℕ → List ℕ → Type 0
HasFront None name max count bytes = Unit {0}
HasFront (Some files) name max count bytes =
    (file : List ℕ) × (files name ≡ Some file) × (length file ≤ max) × (bytes ≡ take count file)

-- the file of this name has more bytes than these
abbrev pub HasLongFile : Option Files → List ℕ → ℕ → Type 0
HasLongFile None name max = Unit {0}
HasLongFile (Some files) name max = (bytes : List ℕ) × (files name ≡ Some bytes) × (max < length bytes)

-- what an error of a load says of the file
abbrev pub ExplainsLoad : Option Files → List ℕ → ℕ → LoadError → Type 0
ExplainsLoad known name max Missing = LacksFile known name
ExplainsLoad known name max Long = HasLongFile known name max
ExplainsLoad known name max Failed = Unit {0}
ExplainsLoad known name max Memory = Unit {0}

-- all files are as they were
abbrev pub KeepsFiles : Option Files → Option Files → Type 0
KeepsFiles None now = Unit {0}
KeepsFiles (Some before) None = ⊥
KeepsFiles (Some before) (Some now) = (name : List ℕ) → now name ≡ before name

-- all files but the one of this name are as they were
abbrev pub KeepsOthers : Option Files → Option Files → List ℕ → Type 0
KeepsOthers None now name = Unit {0}
KeepsOthers (Some before) None name = ⊥
KeepsOthers (Some before) (Some now) name = (other : List ℕ) → other ≢ name → now other ≡ before other

-- the file of this name has these bytes now, and all others are as they were
pub record SavesFile (before now : Option Files) (name bytes : List ℕ) : Type 0 where
  pub saved : HasFile now name bytes
  pub others : KeepsOthers before now name

-- the bytes that a load answered, or its error
abbrev pub loaded : {Z : Type 0} → Result (Vec ℕ Z) LoadError → Result (List ℕ) LoadError
loaded (Ok bytes) = Ok (vec_items bytes)
loaded (Err e) = Err e

-- what a load answered is the file of this name
abbrev pub AnswersFile : Option Files → List ℕ → Result (List ℕ) LoadError → Type 0
AnswersFile known name (Ok bytes) = HasFile known name bytes
AnswersFile known name (Err e) = Unit {0}

-- what a look at the first bytes answered is what the file of this name begins with
abbrev pub AnswersFront : Option Files → List ℕ → ℕ → Result (List ℕ) LoadError → Type 0
AnswersFront known name count (Ok bytes) = (max : ℕ) × HasFront known name max count bytes
AnswersFront known name count (Err e) = Unit {0}

-- a save that was well made these bytes the file of this name, and one that was not changed no file
abbrev pub SavesWhole : Option Files → Option Files → List ℕ → List ℕ → Bool → Type 0
SavesWhole before now name bytes true = SavesFile before now name bytes
SavesWhole before now name bytes false = KeepsFiles before now
