-- The digits from rank `at` on remain to be written.
use Rattle.std.proofs.Common.{◌-◌, ◌≤◌, drop}
use Rattle.zf_spec.specs.HeldPlanes.{digits_held}
use Rattle.zf_planes.specs.Writes.{Remains}
use Rattle.zf_planes.proofs.encoding.write_digits.Given as goal

abbrev pub invariant-loop-at : goal.invariant-loop-at
invariant-loop-at g l =
    let ds = digits_held l.to (g.P.Plane.words l.plane) in
    record {
      remains : Remains l.fn.out l.out l.left (l.left - (l.at - l.from)) (drop l.from ds) (drop l.at ds);
      from : l.from ≤ l.at;
      within : l.at ≤ l.end;
    }

abbrev pub decreases-loop-at : goal.decreases-loop-at
decreases-loop-at g l = l.end - l.at
