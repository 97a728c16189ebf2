-- Numbers between two bounds.
use Rattle.std.specs.Prelude.{ℕ, ℤ, pos, neg_ℤ, ◌≤ℤ◌}

-- a number from -n to n
abbrev pub IsUpTo : ℕ → ℤ → Type 0
IsUpTo n x = (neg_ℤ (pos n) ≤ℤ x) × (x ≤ℤ pos n)
