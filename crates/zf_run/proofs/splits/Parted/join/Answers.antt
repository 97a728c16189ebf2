use Rattle.std.proofs.Common.{rules}
use Rattle.zf_run.proofs.Splitting.{joins, whole_joins}
use Rattle.zf_run.proofs.splits.Parted.join.Goals as goal

pub returns-in_default-clause-joined : goal.returns-in_default-clause-joined
returns-in_default-clause-joined g c = search (rules, whole_joins)

pub returns-clause-joined : goal.returns-clause-joined
returns-clause-joined g c = search (rules, joins)
