use Rattle.std.proofs.Common.{◌+◌, ◌-◌, ◌*◌, ◌/◌, ◌%◌, arith}
use Rattle.zf_spec.{specs.Numbers.{word_bits}, proofs.WordBits.{length-word_bits}}
use Rattle.zf_bits.proofs.Words.{put_parts}
use Rattle.zf_bits.proofs.slots.put_bits.Goals as goal

pub returns-else-n-here-clause-bits : goal.returns-else-n-here-clause-bits
returns-else-n-here-clause-bits c =
    let at = c.args.at in
    let here = 64 - at % 64 in
    put_parts at here (c.args.n - here) c.args.n c.args.v (64 * (at / 64) + at % 64) (64 * (at / 64 + 1) + 0) (word_bits c.args.words.now) (word_bits c.put_in_word-else-n-here.new.words) (word_bits c.put_in_word-else-n-here-2.new.words)
    (omega arith) (omega arith) (omega arith) (omega (arith, length-word_bits c.args.words.now)) c.put_in_word-else-n-here.ensures.bits c.put_in_word-else-n-here-2.ensures.bits
