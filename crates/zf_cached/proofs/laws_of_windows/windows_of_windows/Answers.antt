use Rattle.zf_cached.proofs.Windows.{LiesIn-whole, mapped-whole, LiesIn-sliced}
use Rattle.zf_cached.proofs.laws_of_windows.windows_of_windows.Goals as goal

pub returns : goal.returns
returns c = record {
  whole = λ ns h. LiesIn-whole ns h.not_zero;
  same = mapped-whole;
  slice = LiesIn-sliced;
}
