-- What is done with a view.
use Rattle.std.specs.Prelude.{ℕ, ℤ}

-- the value at a place of a block is read, or written, or added to; what is not written back is written, or
-- dropped
pub data Act : Type 0 where
  get : ℕ → ℕ → Act
  set : ℕ → ℕ → ℤ → Act
  add : ℕ → ℕ → ℤ → Act
  flush : Act
  discard : Act
