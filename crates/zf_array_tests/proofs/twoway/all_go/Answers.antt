use Rattle.std.{proofs.Common.{arith}, proofs.lemmas.Grind.{common_steps}}
use Rattle.zf_array_tests.proofs.twoway.all_go.Goals as goal

pub loop-act-init : goal.loop-act-init
loop-act-init g c = grind (arith, common_steps)

pub loop-act-preserved : goal.loop-act-preserved
loop-act-preserved g c = grind (arith, common_steps)
