-- The words so far are shifted.
use Rattle.std.proofs.Common.{◌≡◌, ℕ, ◌<◌, ◌≤◌, ◌/◌, ◌^◌, slice_index_or}
use Rattle.zf_block.proofs.upper.keep_upper.Given as goal

abbrev pub invariant-loop-r : goal.invariant-loop-r
invariant-loop-r l =
    record {
      shifted : (r : ℕ) → r < l.r → slice_index_or l.digits r 0 ≡ slice_index_or l.initial.digits r 0 / 2 ^ l.initial.count;
      others : (r : ℕ) → l.r ≤ r → slice_index_or l.digits r 0 ≡ slice_index_or l.initial.digits r 0;
    }
