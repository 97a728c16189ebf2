use Rattle.zf_twoway.specs.Placing.{two_lines-own}
use Rattle.zf_twoway.proofs.laws_of_touches.own_lines.Goals as goal

pub returns : goal.returns
returns c = two_lines-own
