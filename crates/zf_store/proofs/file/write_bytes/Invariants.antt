-- The first words are written.
use Rattle.std.proofs.Common.{◌≡◌, ◌*◌, ◌++◌, take, length}
use Rattle.zf_spec.{specs.Numbers.{word_bits}, specs.Stream.{bytes_from, with_fill}}
use Rattle.zf_store.proofs.file.write_bytes.Given as goal

pub record Wrote (l : goal.Live-loop-i) : Type 0 where
  pub bytes : take (8 * l.i) l.out ≡ bytes_from (8 * l.i) (with_fill (take l.prefix_len (word_bits l.prefix) ++ take l.len (word_bits l.words)))
  pub count : length l.out ≡ length l.fn.out

abbrev pub invariant-loop-i : goal.invariant-loop-i
invariant-loop-i l = Wrote l
