-- What a call of the program works on, and what is seen of its devices.
use Rattle.std.specs.Prelude.{◌≡◌, ℕ, List, Option, Some, None}
use Rattle.zf_dev.specs.Shelf.{Files}

-- the bytes of the input, and the files by name
pub record World : Type 0 where
  pub input : List ℕ
  pub files : Files

-- what the source, the sink and the shelf expose of their bytes: `Some` where they do
pub record Seen : Type 0 where
  pub src : Option (List ℕ)
  pub out : Option (List ℕ)
  pub shelf : Option Files

abbrev pub seen : Option (List ℕ) → Option (List ℕ) → Option Files → Seen
seen s o f = record { src = s; out = o; shelf = f }

-- how many faults the source and the sink had
pub record Counts : Type 0 where
  pub src : ℕ
  pub out : ℕ

abbrev pub counts : ℕ → ℕ → Counts
counts s o = record { src = s; out = o }

-- these are the bytes to come, where they are exposed
abbrev pub ExposesInput : Option (List ℕ) → List ℕ → Type 0
ExposesInput None input = Unit {0}
ExposesInput (Some exposed) input = exposed ≡ input

-- these are the files, where they are exposed
abbrev pub ExposesFiles : Option Files → Files → Type 0
ExposesFiles None files = Unit {0}
ExposesFiles (Some exposed) files = (name : List ℕ) → exposed name ≡ files name

-- the world is the one that the devices expose; what they do not expose may be anything in it
pub record IsExposed (before : Seen) (w : World) : Type 0 where
  pub input : ExposesInput before.src w.input
  pub files : ExposesFiles before.shelf w.files
