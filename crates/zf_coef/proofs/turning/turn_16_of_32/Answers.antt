use Rattle.std.proofs.Common.{refl, arith, rules}
use Rattle.zf_coef.proofs.Turns.{half_turned}
use Rattle.zf_coef.proofs.turning.turn_16_of_32.Goals as goal

pub returns : goal.returns
returns c =
    half_turned 16 32 c.args.words.now c.turn_few.new.words c.copy_from_slice.new.self c.step.new.words c.step.ensures c.copy_from_slice.ensures.after
    c.turn_few.ensures refl (search rules) (omega arith) (omega arith)
