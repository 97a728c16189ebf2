use Rattle.zf_cached.proofs.Windows.{mapped_inside, length-mapped, mapped_once}
use Rattle.zf_cached.proofs.laws_of_windows.positions_of_windows.Goals as goal

pub returns : goal.returns
returns c = record {
  inside = λ ns w ps h same inside. mapped_inside ns w h ps inside same;
  dimensions = length-mapped;
  once = mapped_once;
}
