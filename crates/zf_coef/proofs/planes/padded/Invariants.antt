use Rattle.std.proofs.Common.{◌≡◌, ℕ, ◌<◌, ◌≤◌, length, slice_index_or}
use Rattle.zf_coef.proofs.planes.padded.Given as goal

abbrev pub invariant-loop-r : goal.invariant-loop-r
invariant-loop-r l =
    record {
      long : length l.whole ≡ 64;
      copied : (r : ℕ) → r < l.r → slice_index_or l.whole r 0 ≡ slice_index_or l.digits r 0;
      zeros : (r : ℕ) → l.r ≤ r → slice_index_or l.whole r 0 ≡ 0;
    }
