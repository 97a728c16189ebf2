use Rattle.std.proofs.Common.{rules}
use Rattle.zf_lent.proofs.Lengths.{small_restored}
use Rattle.zf_lent.proofs.calls.restore_into.Goals as goal

pub returns : goal.returns
returns c = search (rules, small_restored)
