use Rattle.std.proofs.Common.{◌*◌}
use Rattle.zf_coef.proofs.Steps.{HasStepped}
use Rattle.zf_coef.proofs.turning.step_next.Given as goal

abbrev pub invariant-loop-four : goal.invariant-loop-four
invariant-loop-four g l = HasStepped 1 l.mask (2 * l.four) l.initial.words l.words
