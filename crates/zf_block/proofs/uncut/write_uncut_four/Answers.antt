use Rattle.std.{proofs.Common.{◌≤◌, length, take, arith}, proofs.lemmas.List.{take_all}}
use Rattle.zf_spec.specs.Planes.{planes_of, code}
use Rattle.zf_coef.specs.HeldDigits.{digits_in}
use Rattle.zf_bits.proofs.Appending.{Appends-same}
use Rattle.zf_block.{proofs.Digits.{length-code_digits-le}, proofs.Widths.{width_bounds}}
use Rattle.zf_block.proofs.uncut.write_uncut_four.Goals as goal

pub returns : goal.returns
returns g c =
    let w = c.WIDTH.result in
    let digits = c.args.digits.now in
    let bounds = width_bounds g.T.Lane.width g.T.Lane.WIDTH g.met.T.Lane.two_widths g.met.T.Lane.bits_of_width in
    let within : c.args.prec ≤ w = omega (arith, c.WIDTH.ensures, c.requires.planes) in
    let bits = code (take c.args.prec (planes_of w (digits_in w digits))) in
    let most = rw c.told-digits at (length-code_digits-le c.args.prec w digits within) in
    -- a code is far shorter than the greatest budget
    let short : length bits ≤ 18446744073709551615 = omega (arith, most, c.requires.planes, bounds.1) in
    rw (← c.WIDTH.ensures) (Appends-same c.write_four.ensures.bits (take_all 18446744073709551615 bits short))
