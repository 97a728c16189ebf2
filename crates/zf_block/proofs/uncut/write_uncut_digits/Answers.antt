use Rattle.std.proofs.Common.{◌≡◌, ◌≤◌, ℕ, length, take, ap, ◌∙◌, arith}
use Rattle.zf_spec.specs.Planes.{planes_of, code}
use Rattle.zf_coef.specs.HeldDigits.{digits_in}
use Rattle.zf_bits.proofs.Appending.{Appends-same}
use Rattle.zf_block.{proofs.UpperPlanes.{few_values, all_kept}, proofs.Widths.{width_bounds}, proofs.ZeroPlanes.{code-zero_planes}}
use Rattle.zf_block.proofs.uncut.write_uncut_digits.Goals as goal

pub returns-then-zeros-prec : goal.returns-then-zeros-prec
returns-then-zeros-prec g c =
    let some : 1 ≤ c.args.size = omega (arith, c.requires.room) in
    let none = code-zero_planes c.args.prec c.args.size some in
    Appends-same c.write_zeros_reserved.ensures.bits (cc (c.from.ensures, c.if-zeros-prec.true, c.requires.zeros.1, none))

pub returns-then-prec-zeros : goal.returns-then-prec-zeros
returns-then-prec-zeros g c =
    let width = (width_bounds g.T.Lane.width g.T.Lane.WIDTH g.met.T.Lane.two_widths g.met.T.Lane.bits_of_width).1 in
    let few = few_values c.args.size (length c.args.digits.now) c.requires.room.0.0 c.requires.room.1 in
    let all = all_kept c.args.prec g.T.Lane.WIDTH c.args.digits.now c.requires.planes width few in
    Appends-same c.write_upper.ensures all

pub returns-then-prec-zeros-2 : goal.returns-then-prec-zeros-2
returns-then-prec-zeros-2 g c =
    let width = (width_bounds g.T.Lane.width g.T.Lane.WIDTH g.met.T.Lane.two_widths g.met.T.Lane.bits_of_width).1 in
    let few = few_values c.args.size (length c.args.digits.now) c.requires.room.0.0 c.requires.room.1 in
    let all = all_kept c.args.prec g.T.Lane.WIDTH c.args.digits.now c.requires.planes width few in
    Appends-same c.write_upper-then-prec-zeros-2.ensures all
