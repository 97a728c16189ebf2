use Rattle.zf_cached.proofs.Joining.{joined-rounded, joined-kept, joined-empty, joined-values}
use Rattle.zf_cached.proofs.laws_of_views.joins.Goals as goal

pub returns : goal.returns
returns g c = record {
  rounded = λ setting s i b h. joined-rounded g.P.Placing.line g.P.Placing.may_hold g.P.Placing.placing setting s h i b;
  kept = λ setting s b h. joined-kept g.P.Placing.line g.P.Placing.may_hold g.P.Placing.placing setting s h b;
  empty = λ setting s h. joined-empty g.P.Placing.line g.P.Placing.may_hold g.P.Placing.placing setting s h;
  values = λ setting s b h split. joined-values g.P.Placing.line g.P.Placing.may_hold g.P.Placing.placing setting s h split b;
}
