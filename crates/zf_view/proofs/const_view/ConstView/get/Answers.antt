use Rattle.std.proofs.Common.{rules}
use Rattle.zf_const.specs.Standing.{state}
use Rattle.zf_view.proofs.const_view.ConstView.get.Goals as goal

pub returns-clause-value : goal.returns-clause-value
unfolding state
returns-clause-value g c = search rules
