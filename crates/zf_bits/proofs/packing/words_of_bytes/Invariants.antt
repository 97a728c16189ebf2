-- The words so far, and those of the bytes that are left.
use Rattle.std.{proofs.Common.{◌≡◌, ◌++◌}, specs.Slice.Iter.{chunks_rest, chunks_size}}
use Rattle.zf_bits.specs.Packing.{words_of}
use Rattle.zf_bits.proofs.packing.words_of_bytes.Given as goal

abbrev pub invariant-loop-piece : goal.invariant-loop-piece
invariant-loop-piece l = record {
  size : chunks_size l.piece-iterator ≡ 8;
  words : l.words.items ++ words_of (chunks_rest l.piece-iterator) ≡ words_of l.bytes;
}
