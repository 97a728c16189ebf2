use Rattle.std.{proofs.Common.{arith}, proofs.Math.Nat.{one-le-pow}}
use Rattle.zf_block.proofs.ZeroPlanes.{planes-first}
use Rattle.zf_block.proofs.coefficients.to_planes_of_first.Goals as goal

pub planes_of_first-requires-clause-some : goal.planes_of_first-requires-clause-some
planes_of_first-requires-clause-some g c = omega (arith, c.requires.room.1, one-le-pow c.args.d 4 (omega arith))

pub returns : goal.returns
returns g c =
    let d = c.args.d in
    let u = c.to_digits.result in
    let planes = planes-first g.T.Lane.width d u (g.T.Lane.value c.args.first) c.requires.dimension c.to_digits.ensures.undone in
    let held = c.planes_of_first.ensures.planes in (cc (held, planes, g.met.T.Lane.bits_of_width), cc held)
