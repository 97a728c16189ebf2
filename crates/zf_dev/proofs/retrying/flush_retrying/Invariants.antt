use Rattle.std.proofs.Common.{[]}
use Rattle.zf_dev.specs.Sink.{Appends}
use Rattle.zf_dev.proofs.retrying.flush_retrying.Given as goal

abbrev pub invariant-loop : goal.invariant-loop
invariant-loop g l = record {
  kept : Appends (g.W.Write.contents l.initial.stream) (g.W.Write.contents l.stream) [];
}
