use Rattle.std.{proofs.lemmas.Grind.{common_steps}, proofs.Common.{arith, rules}}
use Rattle.std.proofs.lemmas.List.{with_items_is, places}
use Rattle.zf_stream.proofs.window.Window.new.Goals as goal

pub returns-clause-bits : goal.returns-clause-bits
returns-clause-bits c = search (rules, with_items_is, places)

pub invariant_of-result : goal.invariant_of-result
invariant_of-result c = grind (arith, common_steps)

pub returns-clause-room : goal.returns-clause-room
returns-clause-room c = grind (arith, common_steps)
