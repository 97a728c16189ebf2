-- Behind the bits that were put together the code of the planes of the string that are left remains.
use Rattle.std.proofs.Common.{◌≡◌, ◌*◌, ◌^◌, ◌<◌, ◌≤◌, ◌++◌, max}
use Rattle.zf_spec.{specs.Numbers.{field}, specs.Planes.{code_from, reach_of_all}}
use Rattle.zf_planes.{specs.Fours.{string_planes}, specs.Writes.{Remains}}
use Rattle.zf_planes.proofs.four_writing.write_string.Given as goal

abbrev pub invariant-loop-planes : goal.invariant-loop-planes
invariant-loop-planes l = record {
  remains : Remains l.fn.out l.out l.fn.left l.left (field l.fn.part.len l.fn.part.bits ++ code_from l.fn.above (string_planes l.fn.planes l.fn.string)) (field l.part.len l.part.bits ++ code_from l.above (string_planes l.planes l.string));
  reached : max l.fn.above (reach_of_all (string_planes l.fn.planes l.fn.string)) ≡ max l.above (reach_of_all (string_planes l.planes l.string));
  above : l.above ≤ 4;
  few : l.planes ≤ 16;
  in_word : l.part.len ≤ 64;
  small : l.part.bits < 2 ^ l.part.len;
  no_more : l.fn.string < 2 ^ (4 * l.fn.planes) → l.string < 2 ^ (4 * l.planes);
}

abbrev pub decreases-loop-planes : goal.decreases-loop-planes
decreases-loop-planes l = l.planes
