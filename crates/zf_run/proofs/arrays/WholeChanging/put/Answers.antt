use Rattle.std.proofs.Common.{rules}
use Rattle.zf_run.proofs.Sessions.{changed_there, array_suits, same_whole, still_array}
use Rattle.zf_run.proofs.arrays.WholeChanging.put.Goals as goal

pub returns : goal.returns
returns g c = search (rules, changed_there, array_suits, same_whole, still_array)
