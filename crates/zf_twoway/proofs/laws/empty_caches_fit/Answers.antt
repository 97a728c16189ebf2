use Rattle.zf_cache.proofs.Steps.{empty_fits_at}
use Rattle.zf_twoway.specs.Placing.{skewed}
use Rattle.zf_twoway.proofs.laws.empty_caches_fit.Goals as goal

pub returns : goal.returns
returns g c = λ d n back e. empty_fits_at skewed g.T.Lane.value (g.B.Reading.format back) (g.B.Reading.codes back) d n e
