use Rattle.std.proofs.Common.{arith}
use Rattle.zf_bits.proofs.Words.{words_with}
use Rattle.zf_bits.proofs.slots.put_in_word.Goals as goal

pub returns-then-n-gt0-clause-bits : goal.returns-then-n-gt0-clause-bits
returns-then-n-gt0-clause-bits c =
    words_with 64 c.args.place c.args.shift c.args.n c.args.v c.with_bits.result c.args.words.now (omega arith) c.requires.in_word c.with_bits.ensures
