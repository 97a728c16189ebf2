-- What is left of the budget is what the codes of the planes so far do not take.
use Rattle.std.proofs.Common.{◌≡◌, ◌+◌, ◌≤◌, length, map, take}
use Rattle.zf_spec.{specs.Planes.{code, reach_of_all}, specs.HeldPlanes.{planes_held}}
use Rattle.zf_planes.proofs.measuring.planes_within.Given as goal

abbrev pub invariant-loop-i : goal.invariant-loop-i
invariant-loop-i g l =
    let planes = take l.i (planes_held l.size (map g.P.Plane.words l.planes)) in
    record {
      left : l.left + length (code planes) ≡ l.budget;
      above : l.above ≡ reach_of_all planes;
      bound : l.above ≤ l.size;
    }
