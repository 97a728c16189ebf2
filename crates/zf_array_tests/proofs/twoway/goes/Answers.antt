use Rattle.std.{proofs.Common.{arith}, proofs.lemmas.Grind.{common_steps}}
use Rattle.zf_array_tests.proofs.twoway.goes.Goals as goal

pub returns-in-Discard-clause-fits : goal.returns-in-Discard-clause-fits
returns-in-Discard-clause-fits g c = grind (arith, common_steps)
