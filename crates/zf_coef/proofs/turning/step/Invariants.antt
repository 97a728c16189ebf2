use Rattle.std.proofs.Common.{◌*◌}
use Rattle.zf_coef.proofs.Steps.{HasStepped}
use Rattle.zf_coef.proofs.turning.step.Given as goal

abbrev pub invariant-loop-pair : goal.invariant-loop-pair
invariant-loop-pair g l = HasStepped g.row.S l.mask (2 * l.pair) l.initial.words l.words
