use Rattle.zf_twoway.proofs.Standing.{fits_at, fits_of}
use Rattle.zf_twoway.proofs.laws.two_lines_fit.Goals as goal

pub returns : goal.returns
returns g c = record {
  fits = λ d back. fits_at g.T.Lane.value d (g.B.Reading.format back) (g.B.Reading.codes back);
  lines = λ d back. fits_of g.T.Lane.value d (g.B.Reading.format back) (g.B.Reading.codes back);
}
