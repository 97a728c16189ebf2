-- The words so far are those of the bytes so far.
use Rattle.std.proofs.Common.{◌≡◌, take}
use Rattle.zf_bits.specs.Packing.{words_from}
use Rattle.zf_bits.proofs.packing.put_words.Given as goal

abbrev pub invariant-loop-i : goal.invariant-loop-i
invariant-loop-i l = take l.i l.words ≡ words_from l.i l.bytes
