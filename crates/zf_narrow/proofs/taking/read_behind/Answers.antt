use Rattle.std.proofs.Common.{rules}
use Rattle.zf_narrow.proofs.Taken.{read_there}
use Rattle.zf_narrow.proofs.taking.read_behind.Goals as goal

pub returns-clause-ok : goal.returns-clause-ok
returns-clause-ok g c = search (rules, read_there)
