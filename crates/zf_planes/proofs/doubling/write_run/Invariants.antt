-- Behind the bits that were put together the code of a run remains to be written.
use Rattle.std.proofs.Common.{◌^◌, ◌<◌, ◌≤◌, ◌++◌}
use Rattle.zf_spec.{specs.Numbers.{field}, specs.Planes.{code_from_run}}
use Rattle.zf_planes.specs.Writes.{Remains}
use Rattle.zf_planes.proofs.doubling.write_run.Given as goal

abbrev pub invariant-loop-digits : goal.invariant-loop-digits
invariant-loop-digits l = record {
  remains : Remains l.fn.out l.out l.initial.left l.left (field l.fn.part.len l.fn.part.bits ++ code_from_run (field l.initial.most l.initial.digits)) (field l.pending.len l.pending.bits ++ code_from_run (field l.most l.digits));
  some : 0 < l.digits;
  in_word : l.most ≤ 64;
  within : l.digits < 2 ^ l.most;
  few : l.pending.len ≤ 40;
  small : l.pending.bits < 2 ^ l.pending.len;
}

abbrev pub decreases-loop-digits : goal.decreases-loop-digits
decreases-loop-digits l = l.digits
