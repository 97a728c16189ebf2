use Rattle.std.proofs.Common.{rules}
use Rattle.zf_lorenzo.proofs.FirstAlone.{unlorenzo-first}
use Rattle.zf_lorenzo.proofs.transform.inverse_of_first.Goals as goal

pub returns : goal.returns
returns g c = search (rules, unlorenzo-first)
