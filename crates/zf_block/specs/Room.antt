-- How many bits the longest code of a block has.
use Rattle.std.specs.Prelude.{ℕ, ◌+◌, ◌*◌, ◌^◌}

-- of a reversible code of d dimensions and this width in bits: the count of planes, and at most one bit for
-- each digit and one more for each coefficient
abbrev pub longest_rev : ℕ → ℕ → ℕ
longest_rev width d = 6 + 4 ^ d * (width + 1)

-- of a code of a fixed precision: the same without the count
abbrev pub longest_prec : ℕ → ℕ → ℕ
longest_prec width d = 4 ^ d * (width + 1)
