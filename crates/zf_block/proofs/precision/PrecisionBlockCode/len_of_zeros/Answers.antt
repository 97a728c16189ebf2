use Rattle.std.{proofs.Common.{rules, ◌+◌, arith}, proofs.lemmas.List.{take-replicate}, proofs.Math.Nat.{mul-le-mul_right}}
use Rattle.zf_block.proofs.ZeroPlanes.{size_some, code-zero_planes}
use Rattle.zf_block.proofs.precision.PrecisionBlockCode.len_of_zeros.Goals as goal

pub returns-clause-code : goal.returns-clause-code
returns-clause-code g c = search (rules, take-replicate, code-zero_planes, size_some)

pub returns-clause-fits : goal.returns-clause-fits
returns-clause-fits g c = omega (arith, c.from.ensures, c.min.ensures, c.WIDTH.ensures, mul-le-mul_right (g.T.Lane.WIDTH + 1) (size_some c.args.d.count))
