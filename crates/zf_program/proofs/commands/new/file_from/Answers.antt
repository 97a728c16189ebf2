use Rattle.std.{proofs.Common.{arith}, proofs.lemmas.Grind.{common_steps}}
use Rattle.zf_program.proofs.commands.new.file_from.Goals as goal

pub returns : goal.returns
returns g c = grind (arith, common_steps)
