-- With the ones from rank `at` on, the sum is that of all ones.
use Rattle.std.proofs.Common.{◌≡◌, ◌+◌, ◌-◌, ◌≤◌, drop}
use Rattle.zf_spec.specs.HeldPlanes.{digits_held}
use Rattle.zf_planes.proofs.Lengths.{ones}
use Rattle.zf_planes.proofs.words.ones_from.Given as goal

abbrev pub invariant-loop-at : goal.invariant-loop-at
invariant-loop-at g l =
    let ds = digits_held l.size (g.P.Plane.words l.plane) in
    record {
      sum : l.ones + ones (drop l.at ds) ≡ ones (drop l.n ds);
      within : l.at ≤ l.size;
    }

abbrev pub decreases-loop-at : goal.decreases-loop-at
decreases-loop-at g l = l.size - l.at
