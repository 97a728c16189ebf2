use Rattle.std.proofs.Common.{length-set, get_or-set_same, get_or-set_other, arith}
use Rattle.zf_coef.proofs.Prefixes.{prefix_tells}
use Rattle.zf_coef.proofs.ShiftedBits.{low_part, high_part, low_of_high, high_of_high}
use Rattle.zf_coef.proofs.digits.unfold.Goals as goal

pub loop-r-preserved : goal.loop-r-preserved
loop-r-preserved g c = grind (arith, get_or-set_other, prefix_tells, low_part 32, high_part 32, length-set, get_or-set_same, low_of_high, high_of_high)
