use Rattle.std.proofs.Common.{rules, lit≤}
use Rattle.zf_run.{proofs.Sessions.{touched_is, look_suits}, proofs.Looking.{same_look}}
use Rattle.zf_run.proofs.const_arrays.LookedTarget.value_at.Goals as goal

pub value_at-requires : goal.value_at-requires
value_at-requires g c = (lit≤ tt, (c.requires.position, c.requires.at))

pub returns-clause-touched : goal.returns-clause-touched
returns-clause-touched g c = search (rules, touched_is, look_suits, same_look)
