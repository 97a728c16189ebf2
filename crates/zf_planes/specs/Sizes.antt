-- How many digits planes have.
use Rattle.std.specs.Prelude.{ℕ, ◌≡◌, ◌*◌, ◌<◌, ◌≤◌, List, replicate}

-- the digits of a plane lie in one word
pub record IsWordSize (size : ℕ) : Type 0 where
  pub some : 0 < size
  pub most : size ≤ 64

-- so many digits lie in the words of a plane, of which each has `per`, and n planes are zero, as many as are
-- wanted or more
pub record HasBlanks (size wanted per n : ℕ) (planes : List (List ℕ)) : Type 0 where
  pub some : 0 < size
  pub words : size ≤ 64 * per
  pub enough : wanted ≤ n
  pub blank : planes ≡ replicate n (replicate per 0)
