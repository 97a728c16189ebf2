use Rattle.std.proofs.Common.{rules}
use Rattle.zf_run.{proofs.Sessions.{lined_is, look_suits}, proofs.Looking.{same_look}}
use Rattle.zf_run.proofs.const_arrays.LookedTarget.use_lines.Goals as goal

pub returns-clause-ok : goal.returns-clause-ok
returns-clause-ok g c = search (rules, lined_is, look_suits, same_look)
