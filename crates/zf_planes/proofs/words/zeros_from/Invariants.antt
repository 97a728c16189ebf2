-- The ranks from n on that were passed are zero.
use Rattle.std.proofs.Common.{◌-◌, ◌≤◌}
use Rattle.zf_spec.specs.HeldPlanes.{digits_held}
use Rattle.zf_planes.proofs.Digits.{AreZeros}
use Rattle.zf_planes.proofs.words.zeros_from.Given as goal

abbrev pub invariant-loop-at : goal.invariant-loop-at
invariant-loop-at g l = record {
  from : l.n ≤ l.at;
  zeros : AreZeros (digits_held l.size (g.P.Plane.words l.plane)) l.n l.at;
}

abbrev pub decreases-loop-at : goal.decreases-loop-at
decreases-loop-at g l = l.size - l.at
