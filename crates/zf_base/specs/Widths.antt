-- The types of values, their widths and the numbers that they have.
use Rattle.std.specs.Prelude.{ℕ, ◌-◌, ◌^◌, ℤ, pos, neg_ℤ, ◌≤ℤ◌, ◌<ℤ◌}
use Rattle.std.specs.Int.{Width, w32, w64}
use Rattle.zf_base.specs.declared.lane.Ty.{Ty}
use Rattle.zf_base.specs.declared.lane.Ty.TheVariants.{I32, I64}

-- the width of a type of values
abbrev pub width_of : Ty → Width
width_of I32 = w32
width_of I64 = w64

-- the numbers of a signed type of k bits, from -2^(k-1) to 2^(k-1) - 1
abbrev pub IsSigned : ℕ → ℤ → Type 0
IsSigned k n = (neg_ℤ (pos (2 ^ (k - 1))) ≤ℤ n) × (n <ℤ pos (2 ^ (k - 1)))
