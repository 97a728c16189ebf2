use Rattle.std.{proofs.Common.{arith}, proofs.lemmas.Grind.{common_steps}}
use Rattle.zf_dev.proofs.real.RealSourceSource.read.Goals as goal

pub returns-then-not-is_empty-clause-taken : goal.returns-then-not-is_empty-clause-taken
returns-then-not-is_empty-clause-taken g c = grind (arith, common_steps)

pub invariant_of-self-2 : goal.invariant_of-self-2
invariant_of-self-2 g c = grind (arith, common_steps)

pub returns-clause-taken : goal.returns-clause-taken
returns-clause-taken g c = grind (arith, common_steps)

pub returns-clause-end : goal.returns-clause-end
returns-clause-end g c = grind (arith, common_steps)
