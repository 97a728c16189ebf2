-- The first words of the run are put.
use Rattle.std.proofs.Common.{◌≡◌, ◌*◌, min, length}
use Rattle.zf_spec.specs.Numbers.{word_bits}
use Rattle.zf_store.proofs.Runs.{with_run}
use Rattle.zf_store.proofs.words.put_run.Given as goal

pub record Put (l : goal.Live-loop-i) : Type 0 where
  pub bits : word_bits l.words ≡ with_run (word_bits l.fn.words) l.at (word_bits l.code) (min (64 * l.i) l.len)
  pub count : length l.words ≡ length l.fn.words

abbrev pub invariant-loop-i : goal.invariant-loop-i
invariant-loop-i l = Put l
