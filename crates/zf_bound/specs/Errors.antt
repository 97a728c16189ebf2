-- How far values are from one another, and how an error grows behind the inverse transform.
use Rattle.std.specs.Prelude.{ℕ, zero, suc, ◌+◌, ◌-◌, ◌*◌, ◌^◌, ◌<◌, ◌≤◌, ℤ, pos, ◌-ℤ◌, unsigned_abs, List, slice_index_or}

-- all values have a magnitude of at most m
abbrev pub AreWithin : ℕ → List ℤ → Type 0
AreWithin m values = (k : ℕ) → unsigned_abs (slice_index_or values k (pos 0)) ≤ m

-- at each place the values differ by at most e
abbrev pub AreClose : ℕ → List ℤ → List ℤ → Type 0
AreClose e xs ys = (k : ℕ) → unsigned_abs (slice_index_or ys k (pos 0) -ℤ slice_index_or xs k (pos 0)) ≤ e

-- an error that is lost below plane k: the digits below it come to no more
abbrev pub lost_below : ℕ → ℕ
lost_below k = 2 ^ k - 1

-- what an error of coefficients becomes behind d axes of the inverse transform, at most
abbrev pub grown : ℕ → ℕ → ℕ
grown zero e = e
grown (suc d) e = 4 * grown d e + 4

-- the values and the error are so small that nothing wraps in a type of w bits
abbrev pub IsSmallEnough : ℕ → ℕ → ℕ → Type 0
IsSmallEnough w m e = 8 * (m + e + 17) < 2 ^ (w - 1)
