use Rattle.std.{proofs.lemmas.Grind.{common_steps}, proofs.Common.{arith}}
use Rattle.zf_stream.proofs.reading.read_into.Goals as goal

pub returns-in-Ok-clause-first : goal.returns-in-Ok-clause-first
returns-in-Ok-clause-first g c = grind (arith, common_steps)
