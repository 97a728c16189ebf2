use Rattle.std.proofs.Common.{map}
use Rattle.zf_coef.proofs.Transposed.{HoldsGroups, IsBehind}
use Rattle.zf_coef.proofs.planes.planes_of_digits.Given as goal

abbrev pub invariant-loop-number : goal.invariant-loop-number
invariant-loop-number g l =
    record {
      behind : IsBehind l.number l.digits l.rest;
      groups : HoldsGroups l.number l.digits (map g.P.Plane.words l.planes);
    }
