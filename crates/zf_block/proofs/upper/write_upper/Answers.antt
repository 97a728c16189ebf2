use Rattle.std.proofs.Common.{◌≡◌, ◌+◌, ◌-◌, ◌*◌, ◌≤◌, ℕ, min, false, length, take, replicate, ap, sym, ◌∙◌, arith, length-take}
use Rattle.std.{proofs.Math.Nat.{mul-le-mul_left}}
use Rattle.zf_bits.proofs.Appending.{Appends-append, Appends-same}
use Rattle.zf_block.{proofs.UpperPlanes.{fits_behind, planes_of-shifted, zeros-shifted, writes_top}}
use Rattle.zf_block.proofs.upper.write_upper.Goals as goal

pub write_planes_below-requires-clause-fits : goal.write_planes_below-requires-clause-fits
write_planes_below-requires-clause-fits g c =
    let size = length c.args.digits.now in
    let above = c.min-above.result in
    let within : above ≤ c.args.prec = omega (arith, c.min-above.ensures, c.requires.order) in
    let passed : c.min-passed.result ≡ min c.args.budget above = c.min-passed.ensures ∙ ap (min c.args.budget) c.from.ensures in
    let left = fits_behind c.args.budget size c.args.prec above c.args.out.now.room c.requires.some within c.requires.fits in
    omega (arith, left, passed, c.write_zeros_reserved.ensures.room)

pub write_planes_below-requires-clause-zeros : goal.write_planes_below-requires-clause-zeros
write_planes_below-requires-clause-zeros g c =
    let us = c.args.digits.now in
    let vs = c.keep_upper.new.digits in
    let m = c.args.count in
    let w = c.WIDTH.result in
    let t = c.min-above.result in
    let width = c.WIDTH.ensures in
    let long : length c.planes_of_digits.new.planes ≡ m = omega (arith, c.planes_of_digits.auto.planes, length-take m c.args.planes.now, c.requires.planes) in
    let turned = planes_of-shifted t m (w - m - t) w us vs (omega (arith, c.min-above.ensures, c.requires.upper, width)) c.keep_upper.auto.digits c.keep_upper.ensures in
    let none = zeros-shifted t c.args.zeros m _ _ (rw (← width) at c.requires.zeros) (omega (arith, c.min-above.ensures)) (omega (arith, c.min-above.ensures, c.requires.order, c.requires.reach, width)) in
    cc (c.keep_upper.auto.digits, c.planes_of_digits.ensures.digits, long, turned, none)

pub returns : goal.returns
returns g c =
    let us = c.args.digits.now in
    let vs = c.keep_upper.new.digits in
    let m = c.args.count in
    let w = c.WIDTH.result in
    let t = c.min-above.result in
    let width = c.WIDTH.ensures in
    let passed : c.min-passed.result ≡ min c.args.budget t = c.min-passed.ensures ∙ ap (min c.args.budget) c.from.ensures in
    let long : length c.planes_of_digits.new.planes ≡ m = omega (arith, c.planes_of_digits.auto.planes, length-take m c.args.planes.now, c.requires.planes) in
    let top = writes_top c.args.budget t c.args.zeros m (w - m - t) w c.args.prec (length us) us vs (omega (arith, c.min-above.ensures, c.requires.upper, width)) c.keep_upper.auto.digits c.keep_upper.ensures
    (rw (← width) at c.requires.zeros) c.requires.some (omega (arith, c.min-above.ensures)) c.requires.order.0 (omega (arith, c.min-above.ensures, c.requires.order, c.requires.reach, width)) in
    rw (← width) (Appends-same (Appends-append c.write_zeros_reserved.ensures.bits c.write_planes_below.ensures.bits)
    (cc (passed, c.keep_upper.auto.digits, c.planes_of_digits.ensures.digits, long, top)))
