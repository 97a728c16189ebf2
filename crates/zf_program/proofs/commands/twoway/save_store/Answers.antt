use Rattle.std.{proofs.Common.{arith}, proofs.lemmas.Grind.{common_steps}}
use Rattle.zf_program.proofs.commands.twoway.save_store.Goals as goal

pub returns-clause-closes : goal.returns-clause-closes
returns-clause-closes g c = grind (arith, common_steps)
