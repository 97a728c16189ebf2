-- What is taken from a source. The bytes still to come are `Some` where the source exposes them, and it then
-- goes on exposing them.
use Rattle.std.specs.Prelude.{◌≡◌, ℕ, ◌+◌, ◌<◌, ◌≤◌, ◌↔◌, min, List, [], ◌++◌, length, Option, Some, None}

-- the bytes to come began with these, which are gone
abbrev pub Takes : Option (List ℕ) → Option (List ℕ) → List ℕ → Type 0
Takes None now bytes = Unit {0}
Takes (Some before) None bytes = ⊥
Takes (Some before) (Some now) bytes = before ≡ bytes ++ now

-- some bytes were taken, at most this many
abbrev pub TakesAtMost : Option (List ℕ) → Option (List ℕ) → ℕ → Type 0
TakesAtMost old new most = (bytes : List ℕ) × (length bytes ≤ most) × Takes old new bytes

-- some bytes were taken, more than this many
abbrev pub TakesMoreThan : Option (List ℕ) → Option (List ℕ) → ℕ → Type 0
TakesMoreThan old new most = (bytes : List ℕ) × (most < length bytes) × Takes old new bytes

-- some bytes were taken, maybe none
abbrev pub TakesSome : Option (List ℕ) → Option (List ℕ) → Type 0
TakesSome old new = (bytes : List ℕ) × Takes old new bytes

-- what a source may have given so far is handed on: these bytes more were given. It is said of every source,
-- also of one that exposes nothing
pub record Gives (before now : List ℕ → Type 0) (bytes : List ℕ) : Type 0 where
  pub goes_on : (so_far : List ℕ) → before so_far → now (so_far ++ bytes)

-- some bytes were given, maybe none
abbrev pub GivesSome : (List ℕ → Type 0) → (List ℕ → Type 0) → Type 0
GivesSome before now = (bytes : List ℕ) × Gives before now bytes

-- no byte is to come
abbrev pub IsAtEnd : Option (List ℕ) → Type 0
IsAtEnd None = Unit {0}
IsAtEnd (Some left) = left ≡ []

-- a read gave no byte exactly where none was to come
abbrev pub EndsAt : Option (List ℕ) → Option (List ℕ) → ℕ → Type 0
EndsAt None now given = given ≡ 0 → IsAtEnd now
EndsAt (Some left) now given = (given ≡ 0) ↔ (left ≡ [])

-- the end was seen once at most, and only where this holds
abbrev pub SeesEnd : Type 0 → ℕ → ℕ → Type 0
SeesEnd Ended before now = (now ≤ before + 1) × (¬ Ended → now ≤ before)

-- as many bytes were given as there is room for, or all where fewer were to come
abbrev pub IsFill : Option (List ℕ) → ℕ → ℕ → Type 0
IsFill None room given = Unit {0}
IsFill (Some left) room given = given ≡ min room (length left)
