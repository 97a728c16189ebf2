use Rattle.zf_cache.proofs.Steps.{relined_clean}
use Rattle.zf_cache.proofs.laws.relines_what_is_clean.Goals as goal

pub returns : goal.returns
returns g c = λ d e n back. relined_clean g.T.Lane.value (g.B.Reading.format back) (g.B.Reading.codes back) d e n
