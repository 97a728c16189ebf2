use Rattle.std.proofs.Common.{◌≡◌, [], length}
use Rattle.zf_dev.{specs.Sink.{Appends}, specs.Real.{sink_faults, sink_contents}}
use Rattle.zf_dev.proofs.real.RealSink.hand_on.Given as goal

abbrev pub invariant-loop-self : goal.invariant-loop-self
invariant-loop-self g l = record {
  stays : Appends (sink_contents g.W.Write.contents l.initial.self) (sink_contents g.W.Write.contents l.self) [];
  same : sink_faults l.self ≡ sink_faults l.initial.self;
}

abbrev pub decreases-loop-self : goal.decreases-loop-self
decreases-loop-self g l = length l.self.held
