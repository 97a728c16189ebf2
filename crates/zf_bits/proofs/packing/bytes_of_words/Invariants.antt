-- The bytes of the words so far.
use Rattle.std.{proofs.Common.{◌≡◌, take}, specs.List.{flat_map}, specs.Int.{w64, to_le_bytes}}
use Rattle.zf_bits.proofs.packing.bytes_of_words.Given as goal

abbrev pub invariant-loop-word : goal.invariant-loop-word
invariant-loop-word l = l.bytes.items ≡ flat_map (to_le_bytes w64) (take l.word-index l.words)
