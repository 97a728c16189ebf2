use Rattle.std.proofs.Common.{rules}
use Rattle.zf_program.proofs.TwoWays.{saved_two}
use Rattle.zf_program.proofs.commands.target.Target.close.Goals as goal

pub returns-in-TwoWay : goal.returns-in-TwoWay
returns-in-TwoWay g c = search (rules, saved_two)
