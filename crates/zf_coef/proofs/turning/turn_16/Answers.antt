use Rattle.std.proofs.Common.{arith, rules}
use Rattle.zf_coef.proofs.Turns.{none_turned, more_turned, all_turned}
use Rattle.zf_coef.proofs.turning.turn_16.Goals as goal

pub returns : goal.returns
returns c =
    let old = c.args.words.now in
    let to_8 = more_turned 16 8 old old c.step.new.words (search rules) (omega arith) (none_turned 16 old) c.step.ensures in
    let to_4 = more_turned 16 4 old c.step.new.words c.step-2.new.words (search rules) (omega arith) to_8 c.step-2.ensures in
    let to_2 = more_turned 16 2 old c.step-2.new.words c.step-3.new.words (search rules) (omega arith) to_4 c.step-3.ensures in
    search (rules, more_turned, all_turned)
