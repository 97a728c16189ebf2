use Rattle.zf_coef.specs.Groups.{AreMoved}
use Rattle.zf_coef.proofs.digits.unfold_from.Given as goal

abbrev pub invariant-loop-r : goal.invariant-loop-r
invariant-loop-r g l = AreMoved g.row.N l.r l.from l.words l.digits
