-- Which blocks a view owns.
use Rattle.std.specs.Prelude.{ℕ, ◌+◌, ◌-◌, ◌*◌, ◌/◌, ◌<◌, ◌≤◌}

-- the blocks from first up to and without first + count
abbrev pub Owns : ℕ → ℕ → ℕ → Type 0
Owns first count b = (first ≤ b) × (b < first + count)

-- of n views of so many blocks: the first block of view i, and how many it owns
abbrev pub first_of : ℕ → ℕ → ℕ → ℕ
first_of blocks n i = i * blocks / n

abbrev pub count_of : ℕ → ℕ → ℕ → ℕ
count_of blocks n i = first_of blocks n (i + 1) - first_of blocks n i

-- view i owns the blocks from first_of i up to and without first_of (i + 1)
abbrev pub OwnsPart : ℕ → ℕ → ℕ → ℕ → Type 0
OwnsPart blocks n i b = Owns (first_of blocks n i) (count_of blocks n i) b
