-- A few of the bits of a file.
use Rattle.std.specs.Prelude.{ℕ, ◌*◌, ◌^◌, ◌<◌, ◌≤◌, List, length}
use Rattle.zf_bits.specs.Reader.{Reader}

-- the bits that were taken, from the word of their place on, and the room in words
pub record Excerpt : Type 0 where
  pub reader : Reader
  pub room : ℕ

-- so many bits are held in words, and the place is among them
pub record IsTaken (words : List ℕ) (bits at : ℕ) : Type 0 where
  pub within : bits ≤ 64 * length words
  pub at_within : at ≤ bits
  pub small : 64 * length words < 2 ^ 64
