use Rattle.std.proofs.Common.{◌≡◌, ℕ, ◌<◌, ◌≤◌, length, slice_index_or}
use Rattle.zf_coef.specs.Turned.{bit_of, crossed}
use Rattle.zf_coef.proofs.turning.cross.Given as goal

abbrev pub invariant-loop-j : goal.invariant-loop-j
invariant-loop-j l =
    record {
      long : length l.words ≡ 8;
      done : (j : ℕ) → j < l.j → (i : ℕ) → i < 64 → bit_of l.words j i ≡ bit_of l.initial.words j (crossed i);
      others : (j : ℕ) → l.j ≤ j → slice_index_or l.words j 0 ≡ slice_index_or l.initial.words j 0;
    }
