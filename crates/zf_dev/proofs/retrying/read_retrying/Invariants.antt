use Rattle.std.proofs.Common.{[]}
use Rattle.zf_dev.specs.Source.{Takes}
use Rattle.zf_dev.proofs.retrying.read_retrying.Given as goal

abbrev pub invariant-loop : goal.invariant-loop
invariant-loop g l = record {
  kept : Takes (g.R.Read.remaining l.initial.stream) (g.R.Read.remaining l.stream) [];
}
