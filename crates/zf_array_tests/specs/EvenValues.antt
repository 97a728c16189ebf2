-- The simplest codes that lose something: a block's code is its values, each rounded down to an even number.
use Rattle.std.specs.Prelude.{ℕ, ℤ, pos, ◌*ℤ◌, true, List, map}
use Rattle.zf_spec.specs.Numbers.{floor_half}
use Rattle.zf_base.specs.Formats.{Format}

-- the greatest even number that is at most v
abbrev pub even_below : ℤ → ℤ
even_below v = pos 2 *ℤ floor_half v

-- so many blocks of four values
abbrev pub evens_format : ℕ → Format (List ℤ)
evens_format blocks = record {
  blocks = blocks;
  block_len = 4;
  exists = λ b p. true;
  meaning = λ b code. code;
  encoding = λ b values. map even_below values;
}
