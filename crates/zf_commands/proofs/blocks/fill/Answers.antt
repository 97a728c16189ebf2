use Rattle.std.{proofs.Common.{rules}, proofs.lemmas.Int.{to_z-of_z}}
use Rattle.zf_commands.proofs.Commanding.{no_value, filled}
use Rattle.zf_commands.proofs.blocks.fill.Goals as goal

pub returns-in_default : goal.returns-in_default
returns-in_default g c = search (rules, no_value, to_z-of_z)

pub returns : goal.returns
returns g c = search (rules, filled, to_z-of_z)
