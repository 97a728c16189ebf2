use Rattle.std.proofs.Common.{rules}
use Rattle.zf_view.proofs.Sums.{clean_unwritten, touched_to-unwritten, sum_found-unwritten}
use Rattle.zf_view.proofs.view.View.sum.Goals as goal

pub returns-clause-sum : goal.returns-clause-sum
returns-clause-sum g c = search (rules, sum_found-unwritten, clean_unwritten)

pub returns-clause-unwritten : goal.returns-clause-unwritten
returns-clause-unwritten g c = search (rules, touched_to-unwritten, clean_unwritten)
