use Rattle.zf_cache.proofs.Steps.{empty_fits}
use Rattle.zf_cache.proofs.laws.empty_caches_fit.Goals as goal

pub returns : goal.returns
returns g c = λ d n back e. empty_fits g.T.Lane.value (g.B.Reading.format back) (g.B.Reading.codes back) d n e
