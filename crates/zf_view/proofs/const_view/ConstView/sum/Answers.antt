use Rattle.std.proofs.Common.{rules}
use Rattle.zf_const.specs.Standing.{state}
use Rattle.zf_view.proofs.Sums.{clean_unwritten, sum_found-unwritten}
use Rattle.zf_view.proofs.const_view.ConstView.sum.Goals as goal

pub returns-clause-value : goal.returns-clause-value
unfolding state
returns-clause-value g c = search (rules, sum_found-unwritten, clean_unwritten)
