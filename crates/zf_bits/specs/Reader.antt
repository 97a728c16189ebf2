-- What a reader of bits is seen as, and what reading is.
use Rattle.std.specs.Prelude.{ℕ, ◌+◌, ◌≡◌, Bool, List, ◌++◌, length, drop}

-- all the bits, those read before included, and the place of the next
pub record Reader : Type 0 where
  pub all : List Bool
  pub at : ℕ

-- the bits that are left
abbrev pub rest : Reader → List Bool
rest reader = drop reader.at reader.all

-- these bits came next, and the reader now stands behind them
pub record Reads (old new : Reader) (bits : List Bool) : Type 0 where
  pub next : rest old ≡ bits ++ rest new
  pub place : new.at ≡ old.at + length bits
  pub all : new.all ≡ old.all
