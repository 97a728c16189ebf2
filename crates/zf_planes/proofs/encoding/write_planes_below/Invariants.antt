-- The code of the planes from the i-th on remains to be written.
use Rattle.std.proofs.Common.{map, ◌-◌, ◌≤◌, take, drop}
use Rattle.zf_spec.{specs.Planes.{code, code_from}, specs.HeldPlanes.{planes_held}}
use Rattle.zf_planes.specs.Writes.{Remains}
use Rattle.zf_planes.proofs.encoding.write_planes_below.Given as goal

abbrev pub invariant-loop-i : goal.invariant-loop-i
invariant-loop-i g l =
    let planes = take l.prec (planes_held l.size (map g.P.Plane.words l.planes)) in
    record {
      remains : Remains l.fn.out l.out l.budget l.left (code planes) (code_from l.above (drop l.i planes));
      above : l.above ≤ l.size;
    }

abbrev pub decreases-loop-i : goal.decreases-loop-i
decreases-loop-i g l = l.prec - l.i
