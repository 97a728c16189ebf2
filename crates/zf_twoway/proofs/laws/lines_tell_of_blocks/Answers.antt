use Rattle.zf_twoway.proofs.Standing.{told_in, told_away, told_dirty}
use Rattle.zf_twoway.proofs.laws.lines_tell_of_blocks.Goals as goal

pub returns : goal.returns
returns g c = record {
  in_line = λ d back l b fits is. told_in g.T.Lane.value d (g.B.Reading.format back) (g.B.Reading.codes back) l b fits is;
  away = λ d back b out. told_away g.T.Lane.value d (g.B.Reading.format back) (g.B.Reading.codes back) b out;
  dirty = λ d back b fits. told_dirty g.T.Lane.value d (g.B.Reading.format back) (g.B.Reading.codes back) b fits;
}
