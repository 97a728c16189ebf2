use Rattle.std.{proofs.Common.{rules, ◌≡◌, ◌-◌, length, take, arith}, proofs.lemmas.List.{take_all}}
use Rattle.zf_spec.{specs.Planes.{planes_of, code}, proofs.PlaneDigits.{length-planes_of}}
use Rattle.zf_coef.specs.HeldDigits.{digits_in}
use Rattle.zf_bits.proofs.Appending.{Appends-append, Appends-same}
use Rattle.zf_block.proofs.Zeros.{first_bits-take}
use Rattle.zf_block.proofs.rate.RateBlockCode.write_four.Goals as goal

pub returns : goal.returns
returns g c =
    let width = c.WIDTH-width.result in
    let planes = planes_of width (digits_in width c.args.digits.now) in
    let whole : take width planes ≡ planes = take_all width planes (omega (arith, length-planes_of width (digits_in width c.args.digits.now))) in
    let left : c.from-bits.result - c.write_four-used.result ≡ c.from-bits.result - length (code (take width planes)) = omega (arith, c.write_four-used.ensures.count) in
    Appends-same (Appends-append c.write_four-used.ensures.bits c.write_zeros_reserved.ensures.bits) (search (rules, first_bits-take))
