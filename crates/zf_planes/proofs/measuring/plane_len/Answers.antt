use Rattle.std.proofs.Common.{arith}
use Rattle.zf_spec.{specs.HeldPlanes.{digits_held}, proofs.HeldPlanes.{length-digits_held}}
use Rattle.zf_planes.proofs.Lengths.{plane_length}
use Rattle.zf_planes.proofs.measuring.plane_len.Goals as goal

pub returns-then-max-size : goal.returns-then-max-size
returns-then-max-size g c =
    let ds = digits_held c.args.size (g.P.Plane.words c.args.plane.now) in
    let long = length-digits_held c.args.size (g.P.Plane.words c.args.plane.now) (omega (arith, c.requires.words, g.met.P.Plane.long c.args.plane.now)) in
    let length = (plane_length c.args.n ds (omega (arith, long, c.requires.in_plane))).0 (omega (arith, long, c.requires.end, c.if-max-size.true, c.max.ensures)) in
    omega (arith, length, c.ones_from.ensures, c.saturating_sub.ensures, c.requires.end)

pub returns-else-max-size : goal.returns-else-max-size
returns-else-max-size g c =
    let ds = digits_held c.args.size (g.P.Plane.words c.args.plane.now) in
    let long = length-digits_held c.args.size (g.P.Plane.words c.args.plane.now) (omega (arith, c.requires.words, g.met.P.Plane.long c.args.plane.now)) in
    let length = (plane_length c.args.n ds (omega (arith, long, c.requires.in_plane))).1 (omega (arith, long, c.requires.end, c.if-max-size.false, c.max.ensures)) in
    omega (arith, length, c.ones_from.ensures, c.saturating_sub.ensures, c.saturating_sub-else-max-size.ensures, c.requires.end)
