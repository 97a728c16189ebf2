-- Behind the bits that were put together the code of the top planes of the words that are left remains.
use Rattle.std.proofs.Common.{◌^◌, ◌<◌, ◌≤◌, ◌++◌, min}
use Rattle.zf_spec.{specs.Numbers.{field}, specs.Planes.{code_from}}
use Rattle.zf_planes.{specs.Spread.{top_planes}, specs.Writes.{Remains}}
use Rattle.zf_planes.proofs.four_writing.write_top.Given as goal

abbrev pub invariant-loop-planes : goal.invariant-loop-planes
invariant-loop-planes l = record {
  remains : Remains l.fn.out l.out l.fn.left l.left (field l.fn.part.len l.fn.part.bits ++ code_from 0 (top_planes l.fn.planes l.fn.words)) (field l.part.len l.part.bits ++ code_from l.above (top_planes l.planes l.words));
  above : l.above ≤ 4;
  few : l.planes ≤ 64;
  in_word : min l.left l.part.len ≤ 64;
  small : 0 < l.planes → l.part.bits < 2 ^ l.part.len;
}

abbrev pub decreases-loop-planes : goal.decreases-loop-planes
decreases-loop-planes l = l.planes
