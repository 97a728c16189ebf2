use Rattle.zf_cached.proofs.Flushing.{discard-empty, discard-keeps, discard-discard}
use Rattle.zf_cached.proofs.Placed.{discard-values}
use Rattle.zf_cached.proofs.laws_of_changes.discards.Goals as goal

pub returns : goal.returns
returns g c = record {
  values = discard-values g.P.Placing.line g.P.Placing.may_hold g.P.Placing.placing;
  empty = discard-empty;
  kept = discard-keeps;
  twice = discard-discard;
}
