-- What is appended to a sink. The bytes written are `Some` where the sink exposes them, and it then goes on
-- exposing them.
use Rattle.std.specs.Prelude.{◌≡◌, ℕ, ◌<◌, ◌≤◌, List, ◌++◌, length, take, Option, Some, None}

-- these bytes were written after those from before
abbrev pub Appends : Option (List ℕ) → Option (List ℕ) → List ℕ → Type 0
Appends None now bytes = Unit {0}
Appends (Some before) None bytes = ⊥
Appends (Some before) (Some now) bytes = now ≡ before ++ bytes

-- a prefix of these bytes was written, maybe none and maybe all
abbrev pub AppendsPrefix : Option (List ℕ) → Option (List ℕ) → List ℕ → Type 0
AppendsPrefix old new bytes = (count : ℕ) × (count ≤ length bytes) × Appends old new (take count bytes)

-- a prefix of these bytes was written, but not all of them
abbrev pub AppendsPart : Option (List ℕ) → Option (List ℕ) → List ℕ → Type 0
AppendsPart old new bytes = (count : ℕ) × (count < length bytes) × Appends old new (take count bytes)
