-- The first words hold the first bits of the run, and the words behind are those from before.
use Rattle.std.proofs.Common.{◌≡◌, ◌*◌, min, length}
use Rattle.zf_spec.specs.Numbers.{word_bits}
use Rattle.zf_store.proofs.Runs.{IsMoved}
use Rattle.zf_store.proofs.words.move_to_front.Given as goal

pub record Moved (l : goal.Live-loop-i) : Type 0 where
  pub moved : IsMoved (word_bits l.fn.words) l.at (min (64 * l.i) l.len) l.i l.words
  pub count : length l.words ≡ length l.fn.words

abbrev pub invariant-loop-i : goal.invariant-loop-i
invariant-loop-i l = Moved l
