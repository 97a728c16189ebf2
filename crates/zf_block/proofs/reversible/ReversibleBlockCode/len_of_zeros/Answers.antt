use Rattle.std.{proofs.Common.{rules, ◌+◌, arith}, proofs.Math.Nat.{mul-le-mul_right}}
use Rattle.zf_block.{proofs.Widths.{width_bounds}, proofs.ZeroPlanes.{size_some, rev-zero_planes}}
use Rattle.zf_block.proofs.reversible.ReversibleBlockCode.len_of_zeros.Goals as goal

pub returns-clause-code : goal.returns-clause-code
returns-clause-code g c = search (rules, width_bounds, rev-zero_planes, size_some)

pub returns-clause-fits : goal.returns-clause-fits
returns-clause-fits g c = omega (arith, c.from.ensures, c.count_bits.ensures.bound, mul-le-mul_right (g.T.Lane.WIDTH + 1) (size_some c.args.d.count))
