use Rattle.std.{proofs.Common.{arith}, proofs.lemmas.Grind.{common_steps}}
use Rattle.zf_dev.proofs.buffer.Buffer.fill.Goals as goal

pub returns-clause-held : goal.returns-clause-held
returns-clause-held g c = grind (arith, common_steps)

pub returns-clause-taken : goal.returns-clause-taken
returns-clause-taken g c = grind (arith, common_steps)
