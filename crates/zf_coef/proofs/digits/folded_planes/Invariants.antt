use Rattle.std.proofs.Common.{map}
use Rattle.zf_coef.proofs.Folded.{HasEights}
use Rattle.zf_coef.proofs.digits.folded_planes.Given as goal

abbrev pub invariant-loop-eight : goal.invariant-loop-eight
invariant-loop-eight g l = HasEights l.number l.from l.eight (map g.P.Plane.words l.planes) l.words
