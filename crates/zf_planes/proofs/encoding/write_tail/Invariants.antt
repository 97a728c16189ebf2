-- The tail of the digits from n on remains to be written.
use Rattle.std.proofs.Common.{◌-◌, ◌≤◌, drop}
use Rattle.zf_spec.{specs.Planes.{tail}, specs.HeldPlanes.{digits_held}}
use Rattle.zf_planes.specs.Writes.{Remains}
use Rattle.zf_planes.proofs.encoding.write_tail.Given as goal

abbrev pub invariant-loop-n : goal.invariant-loop-n
invariant-loop-n g l =
    let ds = digits_held l.size (g.P.Plane.words l.plane) in
    record {
      remains : Remains l.fn.out l.out l.initial.left l.left (tail (drop l.from ds)) (tail (drop l.n ds));
      within : l.n ≤ l.size;
    }

abbrev pub decreases-loop-n : goal.decreases-loop-n
decreases-loop-n g l = l.size - l.n
