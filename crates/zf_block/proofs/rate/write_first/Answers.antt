use Rattle.std.proofs.Common.{rules, ◌≡◌, ◌-◌, map, length, take, arith}
use Rattle.std.proofs.lemmas.List.{take_all, length-map}
use Rattle.zf_spec.{specs.Planes.{code}, specs.HeldPlanes.{planes_held}}
use Rattle.zf_spec.proofs.HeldPlanes.{length-planes_held}
use Rattle.zf_bits.proofs.Appending.{Appends-append, Appends-same}
use Rattle.zf_block.proofs.Zeros.{first_bits-take}
use Rattle.zf_block.proofs.rate.write_first.Goals as goal

pub returns : goal.returns
returns g c =
    let all = map g.P.Plane.words c.args.planes.now in
    let planes = planes_held c.args.size all in
    let bits = code (take c.args.count planes) in
    let whole : take c.args.count planes ≡ planes = take_all c.args.count planes (omega (arith, length-planes_held c.args.size all, length-map c.args.planes.now g.P.Plane.words, c.requires.planes)) in
    let left : c.from-bits.result - c.write_planes_below-written.result ≡ c.from-bits.result - length bits = omega (arith, c.write_planes_below-written.ensures.count) in
    Appends-same (Appends-append c.write_planes_below-written.ensures.bits c.write_zeros_reserved.ensures.bits) (search (rules, c.from-bits.ensures, first_bits-take))
