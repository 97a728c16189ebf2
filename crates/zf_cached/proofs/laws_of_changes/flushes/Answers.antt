use Rattle.zf_cached.proofs.Flushing.{flush-flush, flush-lines, flush-touches}
use Rattle.zf_cached.proofs.Placed.{flush-rounded, flush-left, flush-empty, flush-writes}
use Rattle.zf_cached.proofs.laws_of_changes.flushes.Goals as goal

pub returns : goal.returns
returns g c = record {
  dirty = flush-rounded g.P.Placing.line g.P.Placing.may_hold g.P.Placing.placing;
  clean = flush-left g.P.Placing.line g.P.Placing.may_hold g.P.Placing.placing;
  empty = flush-empty g.P.Placing.line g.P.Placing.may_hold g.P.Placing.placing;
  writes = flush-writes g.P.Placing.line g.P.Placing.may_hold g.P.Placing.placing;
  twice = flush-flush;
  lines = flush-lines;
  touches = flush-touches;
}
