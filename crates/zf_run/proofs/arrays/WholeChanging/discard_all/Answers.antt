use Rattle.std.proofs.Common.{rules}
use Rattle.zf_run.proofs.Sessions.{discarded_is, array_suits, same_whole, still_array}
use Rattle.zf_run.proofs.arrays.WholeChanging.discard_all.Goals as goal

pub returns : goal.returns
returns g c = search (rules, discarded_is, array_suits, same_whole, still_array)
