-- Behind the bits that were put together the code of the planes from the i-th on remains to be written.
use Rattle.std.proofs.Common.{map, ◌-◌, ◌*◌, ◌^◌, ◌<◌, ◌≤◌, ◌++◌, take, drop}
use Rattle.zf_spec.{specs.Numbers.{field}, specs.Planes.{code_from}, specs.HeldPlanes.{planes_held}}
use Rattle.zf_planes.specs.Writes.{Remains}
use Rattle.zf_planes.proofs.word_writing.write_planes_of_word.Given as goal

abbrev pub invariant-loop-i : goal.invariant-loop-i
invariant-loop-i g l =
    let planes = take l.prec (planes_held l.size (map g.P.Plane.words l.planes)) in
    record {
      remains : Remains l.fn.out l.out l.fn.left l.left (code_from 0 (drop l.from planes)) (field l.part.len l.part.bits ++ code_from l.above (drop l.i planes));
      above : l.above < l.size;
      place : l.i ≤ l.prec;
      small : l.part.bits < 2 ^ l.part.len;
      in_word : l.part.len ≤ 64;
    }

abbrev pub decreases-loop-i : goal.decreases-loop-i
decreases-loop-i g l = l.prec - l.i

abbrev pub invariant-loop-i-2 : goal.invariant-loop-i-2
invariant-loop-i-2 g l =
    let planes = take l.prec (planes_held l.size (map g.P.Plane.words l.planes)) in
    record {
      remains : Remains l.fn.out l.out l.fn.left l.left (code_from 0 (drop l.from planes)) (code_from l.size (drop l.i planes));
      place : l.i ≤ l.prec;
    }

abbrev pub decreases-loop-i-2 : goal.decreases-loop-i-2
decreases-loop-i-2 g l = l.prec - l.i

abbrev pub invariant-loop-i-3 : goal.invariant-loop-i-3
invariant-loop-i-3 g l =
    let planes = take l.prec (planes_held l.size (map g.P.Plane.words l.planes)) in
    record {
      remains : Remains l.fn.out l.out l.fn.left l.left (code_from 0 (drop l.from planes)) (field l.whole.len l.whole.bits ++ code_from l.size (drop l.i planes));
      place : l.i ≤ l.prec;
      small : l.whole.bits < 2 ^ l.whole.len;
      in_word : l.whole.len ≤ 64;
      some : l.whole.len ≤ 64 * (l.i - l.initial.i);
      on : l.initial.i ≤ l.i;
    }

abbrev pub decreases-loop-i-3 : goal.decreases-loop-i-3
decreases-loop-i-3 g l = l.prec - l.i
