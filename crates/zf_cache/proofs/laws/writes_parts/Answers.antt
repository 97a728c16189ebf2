use Rattle.zf_cache.proofs.Steps.{part_written}
use Rattle.zf_cache.proofs.laws.writes_parts.Goals as goal

pub returns : goal.returns
returns g c = λ d b a n ws back. part_written g.T.Lane.value (g.B.Reading.format back) (g.B.Reading.codes back) d b a n ws
