use Rattle.std.{proofs.Common.{◌≤◌, map, length, take, arith}, proofs.lemmas.List.{take_all, length-map}}
use Rattle.std.proofs.Math.Nat.{mul-le-mul_right}
use Rattle.zf_spec.{specs.Planes.{code}, specs.HeldPlanes.{planes_held}}
use Rattle.zf_bits.proofs.Appending.{Appends-same}
use Rattle.zf_planes.proofs.Lengths.{length-code_words-le}
use Rattle.zf_block.proofs.uncut.write_uncut.Goals as goal

pub returns : goal.returns
returns g c =
    let size = c.args.size in
    let prec = c.args.prec in
    let words = g.P.Plane.words in
    let all = map words c.args.planes.now in
    let many = length-map c.args.planes.now words in
    let small : size ≤ 256 = omega (arith, c.requires.size.0) in
    let most = length-code_words-le words _ prec size c.args.planes.now g.met.P.Plane.long c.requires.size.1 (omega (arith, c.requires.planes)) in
    let digits = mul-le-mul_right prec small in
    -- a code is far shorter than the greatest budget
    let short : length (code (take prec (planes_held size all))) ≤ 18446744073709551615 = omega (arith, most, digits, c.requires.planes, c.requires.few) in
    Appends-same c.write_planes_below.ensures.bits (take_all 18446744073709551615 (code (take prec (planes_held size all))) short)
