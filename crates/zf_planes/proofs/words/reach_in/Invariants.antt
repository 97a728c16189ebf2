-- From `end` on no rank has a one.
use Rattle.std.proofs.Common.{◌≤◌}
use Rattle.zf_spec.specs.HeldPlanes.{digits_held}
use Rattle.zf_planes.proofs.Digits.{IsZeroFrom}
use Rattle.zf_planes.proofs.words.reach_in.Given as goal

abbrev pub invariant-loop-end : goal.invariant-loop-end
invariant-loop-end g l = record {
  within : l.end ≤ l.size;
  zeros : IsZeroFrom (digits_held l.size (g.P.Plane.words l.plane)) l.end;
}

abbrev pub decreases-loop-end : goal.decreases-loop-end
decreases-loop-end g l = l.end
