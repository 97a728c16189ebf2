use Rattle.zf_coef.specs.Groups.{AreUnfolded}
use Rattle.zf_coef.proofs.digits.unfold.Given as goal

abbrev pub invariant-loop-r : goal.invariant-loop-r
invariant-loop-r g l = AreUnfolded g.row.N l.r l.low l.high l.digits
