use Rattle.std.proofs.Common.{◌∙◌, arith, drop, replicate, false, length-drop}
use Rattle.zf_spec.{specs.Numbers.{word_bits}, proofs.WordBits.{length-word_bits}}
use Rattle.zf_bits.proofs.Words.{low_of_window}
use Rattle.zf_bits.proofs.slots.get_bits.Goals as goal

pub returns : goal.returns
returns c =
    let bits = word_bits c.args.words.now in
    c.low_bits.ensures ∙ low_of_window 64 c.args.n c.bits_from.result (drop c.args.at bits) (replicate 64 false) c.bits_from.ensures c.requires.width
    (omega (arith, length-drop c.args.at bits, length-word_bits c.args.words.now, c.requires.within))
