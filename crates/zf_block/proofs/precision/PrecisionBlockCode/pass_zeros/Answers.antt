use Rattle.std.proofs.Common.{rules}
use Rattle.zf_block.proofs.ZeroPlanes.{size_some, prec_planes-zeros, prec_len-zeros}
use Rattle.zf_block.proofs.precision.PrecisionBlockCode.pass_zeros.Goals as goal

pub returns-then-are_zeros-clause-passes : goal.returns-then-are_zeros-clause-passes
returns-then-are_zeros-clause-passes g c = search (rules, prec_len-zeros, size_some)

pub returns-then-are_zeros-clause-zeros : goal.returns-then-are_zeros-clause-zeros
returns-then-are_zeros-clause-zeros g c = search (rules, prec_planes-zeros, size_some)
