use Rattle.std.proofs.Common.{arith, rules}
use Rattle.zf_coef.proofs.Turns.{none_turned, more_turned, all_turned}
use Rattle.zf_coef.proofs.turning.turn_8.Goals as goal

pub returns : goal.returns
returns c =
    let old = c.args.words.now in
    let to_4 = more_turned 8 4 old old c.step.new.words (search rules) (omega arith) (none_turned 8 old) c.step.ensures in
    let to_2 = more_turned 8 2 old c.step.new.words c.step-2.new.words (search rules) (omega arith) to_4 c.step-2.ensures in
    search (rules, more_turned, all_turned)
