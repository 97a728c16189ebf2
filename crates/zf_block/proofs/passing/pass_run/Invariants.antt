-- The zeros so far are passed, and the run of the other digits is to come.
use Rattle.std.proofs.Common.{◌<◌}
use Rattle.zf_block.specs.Passing.{run_len, run_reach, Along}
use Rattle.zf_block.proofs.passing.pass_run.Given as goal

abbrev pub invariant-loop-m : goal.invariant-loop-m
invariant-loop-m l = record {
  along : Along (run_len l.most l.fn.ahead) (run_reach l.most l.fn.ahead) l.most l.fn.ahead (run_len l.m l.ahead) (run_reach l.m l.ahead) l.m l.ahead;
  some : 0 < l.m;
}

abbrev pub decreases-loop-m : goal.decreases-loop-m
decreases-loop-m l = l.m
