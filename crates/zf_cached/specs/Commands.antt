-- What a line of a script asks for.
--     Positions, sizes and steps are lists of one number for each axis, x first.
use Rattle.std.specs.Prelude.{ℕ, ℤ, List}

pub data Command : Type 0 where
  -- one value of the array
  get : List ℕ → Command
  set : List ℕ → ℤ → Command
  add : List ℕ → ℤ → Command
  -- all values
  fill : ℤ → Command
  sum : Command
  -- the current window: its origin, sizes and steps; one place of an axis; values through it
  view : List ℕ → List ℕ → List ℕ → Command
  slice : ℕ → ℕ → Command
  vget : List ℕ → Command
  vset : List ℕ → ℤ → Command
  vsum : Command
  -- the cache, the shape, the counts
  flush : Command
  discard : Command
  lines : ℕ → Command
  resize : List ℕ → Command
  stats : Command
  -- private views: how many, with how many lines each; the end of the split
  split : ℕ → ℕ → Command
  join : Command
  -- on the view of this number: one value, its cache, its counts
  pget : ℕ → List ℕ → Command
  pset : ℕ → List ℕ → ℤ → Command
  padd : ℕ → List ℕ → ℤ → Command
  pflush : ℕ → Command
  pdiscard : ℕ → Command
  pstats : ℕ → Command
