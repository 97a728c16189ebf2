use Rattle.zf_twoway.proofs.Standing.{opens}
use Rattle.zf_twoway.proofs.laws.empty_caches_open.Goals as goal

pub returns : goal.returns
returns g c = λ d n back empty counts. opens g.T.Lane.value d (g.B.Reading.format back) (g.B.Reading.codes back) n empty counts
