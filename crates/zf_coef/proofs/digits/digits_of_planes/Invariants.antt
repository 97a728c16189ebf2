use Rattle.std.proofs.Common.{map}
use Rattle.zf_coef.proofs.Transposed.{IsOfGroups}
use Rattle.zf_coef.proofs.digits.digits_of_planes.Given as goal

abbrev pub invariant-loop-number : goal.invariant-loop-number
invariant-loop-number g l = IsOfGroups l.number (map g.P.Plane.words l.planes) l.digits
