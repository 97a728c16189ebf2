use Rattle.std.proofs.Common.{arith, rules}
use Rattle.zf_coef.proofs.Turns.{none_turned, more_turned, all_turned}
use Rattle.zf_coef.proofs.turning.turn_32.Goals as goal

pub returns : goal.returns
returns c =
    let old = c.args.words.now in
    let to_16 = more_turned 32 16 old old c.step.new.words (search rules) (omega arith) (none_turned 32 old) c.step.ensures in
    let to_8 = more_turned 32 8 old c.step.new.words c.step-2.new.words (search rules) (omega arith) to_16 c.step-2.ensures in
    let to_4 = more_turned 32 4 old c.step-2.new.words c.step-3.new.words (search rules) (omega arith) to_8 c.step-3.ensures in
    let to_2 = more_turned 32 2 old c.step-3.new.words c.step-4.new.words (search rules) (omega arith) to_4 c.step-4.ensures in
    let to_1 = more_turned 32 1 old c.step-4.new.words c.step_next.new.words (search rules) (omega arith) to_2 c.step_next.ensures in
    all_turned 32 old c.step_next.new.words to_1
