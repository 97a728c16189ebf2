use Rattle.std.proofs.Common.{rules, length-set, arith}
use Rattle.zf_coef.{proofs.Prefixes.{prefix_tells, rest_set}, proofs.Turns.{crossed_word}}
use Rattle.zf_coef.proofs.turning.cross.Goals as goal

pub loop-j-preserved : goal.loop-j-preserved
loop-j-preserved c = search (rules, length-set, prefix_tells, crossed_word, rest_set)

pub returns : goal.returns
returns c j i h within = c.loop-j.invariant.done j (omega arith) i within
