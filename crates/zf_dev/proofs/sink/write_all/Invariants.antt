use Rattle.std.proofs.Common.{◌≡◌, length, ◌-◌, ◌≤◌, take}
use Rattle.zf_dev.specs.Sink.{Appends}
use Rattle.zf_dev.proofs.sink.write_all.Given as goal

abbrev pub invariant-loop-written : goal.invariant-loop-written
invariant-loop-written g l = record {
  in_range : l.written ≤ length l.bytes;
  prefix : Appends (g.O.Sink.contents l.initial.out) (g.O.Sink.contents l.out) (take l.written l.bytes);
  same : g.O.Sink.faults l.out ≡ g.O.Sink.faults l.initial.out;
  same_sink : g.O.Sink.kept l.out ≡ g.O.Sink.kept l.initial.out;
}

abbrev pub decreases-loop-written : goal.decreases-loop-written
decreases-loop-written g l = length l.bytes - l.written
