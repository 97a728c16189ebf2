use Rattle.std.proofs.Common.{rules}
use Rattle.zf_run.proofs.Splitting.{ends}
use Rattle.zf_run.proofs.splits.Parted.finish.Goals as goal

pub returns-clause-ended : goal.returns-clause-ended
returns-clause-ended g c = search (rules, ends)
