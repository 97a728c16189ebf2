use Rattle.std.proofs.Common.{length}
use Rattle.zf_cache.proofs.Steps.{discarded_at, empty_fits_at}
use Rattle.zf_twoway.specs.Placing.{skewed}
use Rattle.zf_twoway.proofs.laws.discards.Goals as goal

pub returns : goal.returns
returns g c = record {
  state = λ d e back fits. discarded_at skewed g.T.Lane.value (g.B.Reading.format back) (g.B.Reading.codes back) d e fits;
  fits = λ d e back fits empty. empty_fits_at skewed g.T.Lane.value (g.B.Reading.format back) (g.B.Reading.codes back) e (length d.tags) empty;
}
