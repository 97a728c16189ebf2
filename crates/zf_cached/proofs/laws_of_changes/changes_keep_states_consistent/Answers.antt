use Rattle.zf_cached.proofs.Placed.{opened-consistent, flush-consistent, discard-consistent, relined-consistent, resized-consistent}
use Rattle.zf_cached.proofs.laws_of_changes.changes_keep_states_consistent.Goals as goal

pub returns : goal.returns
returns g c = record {
  opened = opened-consistent g.P.Placing.line g.P.Placing.may_hold g.P.Placing.placing;
  flush = flush-consistent g.P.Placing.line g.P.Placing.may_hold g.P.Placing.placing;
  discard = discard-consistent g.P.Placing.line g.P.Placing.may_hold g.P.Placing.placing;
  lines = relined-consistent g.P.Placing.line g.P.Placing.may_hold g.P.Placing.placing;
  resize = resized-consistent g.P.Placing.line g.P.Placing.may_hold g.P.Placing.placing;
}
