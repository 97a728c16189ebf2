use Rattle.zf_bound.proofs.WrittenBack.{flush_close}
use Rattle.zf_bound.proofs.laws.a_flush_loses_little.Goals as goal

pub returns : goal.returns
returns g c = flush_close g.P.Placing.line g.P.Placing.may_hold g.P.Placing.placing
