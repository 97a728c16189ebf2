use Rattle.std.proofs.Common.{map}
use Rattle.zf_coef.proofs.FirstAlone.{HoldsFirst}
use Rattle.zf_coef.proofs.first.planes_of_first.Given as goal

abbrev pub invariant-loop-k : goal.invariant-loop-k
invariant-loop-k g l = HoldsFirst l.first l.k (map g.P.Plane.words l.planes)
