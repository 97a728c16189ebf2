use Rattle.std.proofs.Common.{rules}
use Rattle.zf_run.proofs.Sessions.{lined_is, array_suits, same_whole, still_array}
use Rattle.zf_run.proofs.arrays.WholeTarget.use_lines.Goals as goal

pub returns-clause-ok : goal.returns-clause-ok
returns-clause-ok g c = search (rules, lined_is, array_suits, same_whole, still_array)
