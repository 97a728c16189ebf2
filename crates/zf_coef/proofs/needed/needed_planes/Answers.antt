use Rattle.std.proofs.Common.{◌∙◌}
use Rattle.zf_coef.proofs.AnyDigits.{needed-is}
use Rattle.zf_coef.proofs.needed.needed_planes.Goals as goal

pub returns : goal.returns
returns c = c.saturating_sub.ensures ∙ needed-is c.any_digits.result c.args.width c.args.digits.now c.requires c.any_digits.type_inv c.any_digits.ensures
