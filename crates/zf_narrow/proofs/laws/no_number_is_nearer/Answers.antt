use Rattle.zf_narrow.{specs.Values.{on_step}, proofs.Nearest.{none_nearer}}
use Rattle.zf_narrow.proofs.laws.no_number_is_nearer.Goals as goal

pub returns : goal.returns
returns c n v x is = none_nearer n (on_step n v) x is
