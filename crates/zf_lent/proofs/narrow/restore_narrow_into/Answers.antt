use Rattle.std.proofs.Common.{rules}
use Rattle.zf_lent.proofs.Lengths.{small_narrow}
use Rattle.zf_lent.proofs.narrow.restore_narrow_into.Goals as goal

pub returns : goal.returns
returns c = search (rules, small_narrow)
