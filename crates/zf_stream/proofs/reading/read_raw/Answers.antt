use Rattle.std.{proofs.lemmas.Grind.{common_steps}, proofs.Common.{arith}}
use Rattle.zf_stream.proofs.reading.read_raw.Goals as goal

pub returns-clause-ok : goal.returns-clause-ok
returns-clause-ok g c = grind (arith, common_steps)

pub returns-clause-gave : goal.returns-clause-gave
returns-clause-gave g c = grind (arith, common_steps)
