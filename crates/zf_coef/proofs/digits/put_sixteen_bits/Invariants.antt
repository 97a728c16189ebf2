use Rattle.std.proofs.Common.{◌≡◌, ℕ, ◌<◌, ◌≤◌, ◌*◌, ◌%◌, ◌^◌, length, slice_index_or}
use Rattle.std.specs.Int.RustNames.{bit_or}
use Rattle.zf_coef.proofs.digits.put_sixteen_bits.Given as goal

abbrev pub invariant-loop-j : goal.invariant-loop-j
invariant-loop-j l =
    record {
      long : length l.words ≡ 8;
      put : (j : ℕ) → j < l.j → slice_index_or l.words j 0 ≡ bit_or (slice_index_or l.initial.words j 0) (slice_index_or l.tile j 0 % 2 ^ 16 * 2 ^ l.place % 2 ^ 64);
      others : (j : ℕ) → l.j ≤ j → slice_index_or l.words j 0 ≡ slice_index_or l.initial.words j 0;
    }
