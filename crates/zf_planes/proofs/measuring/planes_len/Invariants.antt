-- With the length of the code from the i-th plane on, the sum is the length of the whole code.
use Rattle.std.proofs.Common.{◌≡◌, ◌+◌, ◌≤◌, length, map, take, drop}
use Rattle.zf_spec.{specs.Planes.{code, code_from}, specs.HeldPlanes.{planes_held}}
use Rattle.zf_planes.proofs.measuring.planes_len.Given as goal

abbrev pub invariant-loop-i : goal.invariant-loop-i
invariant-loop-i g l =
    let planes = take l.prec (planes_held l.size (map g.P.Plane.words l.planes)) in
    record {
      sum : l.len + length (code_from l.above (drop l.i planes)) ≡ length (code planes);
      above : l.above ≤ l.size;
    }
