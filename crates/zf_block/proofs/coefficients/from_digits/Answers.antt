use Rattle.std.proofs.Common.{◌∙◌}
use Rattle.zf_block.proofs.Digits.{coefficients_of-planes_of}
use Rattle.zf_block.proofs.coefficients.from_digits.Goals as goal

pub returns : goal.returns
returns g c = c.unranked.ensures ∙ coefficients_of-planes_of g.T.Lane.width c.args.d g.T.Lane.WIDTH c.args.digits.now g.met.T.Lane.bits_of_width c.requires.digits
