use Rattle.std.{proofs.Common.{◌≡◌, length, map, take, arith}, proofs.lemmas.List.{length-map}}
use Rattle.zf_spec.{specs.HeldPlanes.{planes_held}, specs.ReadPlanes.{planes_in}}
use Rattle.zf_spec.{proofs.Full.{length-planes_in, planes_in-length}, proofs.HeldPlanes.{length-planes_held}}
use Rattle.zf_bits.specs.Reader.{rest}
use Rattle.zf_block.{proofs.Answered.{when_some}, proofs.WholePlanes.{whole_from-held}}
use Rattle.zf_block.proofs.whole.whole_planes_in.Goals as goal

pub returns-clause-plane : goal.returns-clause-plane
returns-clause-plane g c =
    let size = c.args.size in
    let n = g.T.Lane.WIDTH in
    let s = take c.args.bits (rest c.args.reader.now) in
    let ps = planes_in n size s in
    let words = map g.P.Plane.words c.read.new.planes in
    let held = when_some c.read.result c.unwrap.result c.unwrap.ensures c.read.ensures.1 in
    let count = length-planes_in n size s in
    let long : length (planes_held size words) ≡ length ps =
    omega (arith, count, length-planes_held size words, length-map c.read.new.planes g.P.Plane.words, c.read.auto.planes, c.clear.auto.planes, c.requires.planes) in
    let found =
    whole_from-held size c.args.bits ps (planes_held size words) held.1.0 c.planes_within.result (planes_in-length n size s) held.1.1 long
    (omega (arith, c.planes_within.ensures.most, c.read.auto.planes, c.clear.auto.planes, c.requires.planes, count))
    (omega (arith, c.planes_within.ensures.within, c.from.ensures))
    (λ below. omega (arith, c.planes_within.ensures.no_more (omega (arith, below, c.read.auto.planes, c.clear.auto.planes, c.requires.planes, count)), c.from.ensures)) in
    omega (arith, c.WIDTH.ensures, count, found)

pub returns-clause-passed : goal.returns-clause-passed
returns-clause-passed g c = (when_some c.read.result c.unwrap.result c.unwrap.ensures c.read.ensures.1).0.passed
