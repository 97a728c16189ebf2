use Rattle.std.proofs.Common.{map}
use Rattle.zf_block.proofs.Digits.{planes_of-ranked}
use Rattle.zf_block.proofs.coefficients.to_digits.Goals as goal

pub returns : goal.returns
returns g c = planes_of-ranked g.T.Lane.width c.args.d g.T.Lane.WIDTH (map g.T.Lane.value c.args.coefficients.now) c.ranked.new.digits g.met.T.Lane.bits_of_width c.ranked.ensures.digits
