-- The groups so far are passed, and the tail of the other digits is to come.
use Rattle.zf_block.specs.Passing.{tail_len, tail_reach, Along}
use Rattle.zf_block.proofs.passing.pass_tail.Given as goal

abbrev pub invariant-loop-m : goal.invariant-loop-m
invariant-loop-m l = Along (tail_len l.most l.fn.ahead) (tail_reach l.most l.fn.ahead) l.most l.fn.ahead (tail_len l.m l.ahead) (tail_reach l.m l.ahead) l.m l.ahead

abbrev pub decreases-loop-m : goal.decreases-loop-m
decreases-loop-m l = l.m
