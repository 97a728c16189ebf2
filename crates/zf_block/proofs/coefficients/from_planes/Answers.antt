use Rattle.std.{proofs.Common.{◌≡◌, ◌^◌, map, length, ◌∙◌, arith}, proofs.lemmas.List.{length-map}}
use mir.Val.{bits}
use Rattle.zf_coef.proofs.Composed.{by_place-planes}
use Rattle.zf_block.proofs.coefficients.from_planes.Goals as goal

pub returns : goal.returns
returns g c =
    let held = map g.P.Plane.words c.args.planes.now in
    let many = length-map c.args.planes.now g.P.Plane.words in
    let digits : length c.digits_of_planes.new.digits ≡ 4 ^ c.args.d = omega arith in
    let planes : length held ≡ bits g.T.Lane.width = many ∙ (c.requires.room.2 ∙ g.met.T.Lane.bits_of_width) in
    c.unranked.ensures ∙ by_place-planes g.T.Lane.width c.args.d c.digits_of_planes.new.digits held digits planes (rw many c.digits_of_planes.ensures.digits)
