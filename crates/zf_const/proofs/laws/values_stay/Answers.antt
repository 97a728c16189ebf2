use Rattle.zf_const.proofs.Values.{values-touch, values-relined}
use Rattle.zf_const.proofs.laws.values_stay.Goals as goal

pub returns-clause-touch : goal.returns-clause-touch
returns-clause-touch c = values-touch

pub returns-clause-lines : goal.returns-clause-lines
returns-clause-lines c = values-relined
