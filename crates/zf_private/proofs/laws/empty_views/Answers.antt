use Rattle.std.proofs.Common.{length, rules}
use Rattle.zf_cache.proofs.Steps.{empty_fits, discarded}
use Rattle.zf_private.proofs.Others.{acted-discard}
use Rattle.zf_private.proofs.laws.empty_views.Goals as goal

pub returns : goal.returns
returns g c = record {
  fits = λ v n back e. empty_fits g.T.Lane.value (g.B.Reading.format back) (g.B.Reading.codes back) v.cache n e;
  emptied = λ v new back fits e. empty_fits g.T.Lane.value (g.B.Reading.format back) (g.B.Reading.codes back) new.cache (length v.cache.tags) e;
  discards = search (rules, discarded, acted-discard);
}
