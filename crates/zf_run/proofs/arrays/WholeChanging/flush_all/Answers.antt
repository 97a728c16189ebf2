use Rattle.std.proofs.Common.{rules}
use Rattle.zf_run.proofs.Sessions.{flushed_is, array_suits, same_whole, still_array}
use Rattle.zf_run.proofs.arrays.WholeChanging.flush_all.Goals as goal

pub returns : goal.returns
returns g c = search (rules, flushed_is, array_suits, same_whole, still_array)
