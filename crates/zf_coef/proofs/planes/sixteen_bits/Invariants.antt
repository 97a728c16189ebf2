use Rattle.std.proofs.Common.{◌≡◌, ℕ, ◌<◌, ◌/◌, ◌%◌, ◌^◌, length, slice_index_or}
use Rattle.zf_coef.proofs.planes.sixteen_bits.Given as goal

abbrev pub invariant-loop-j : goal.invariant-loop-j
invariant-loop-j l =
    record {
      long : length l.cut ≡ 8;
      cut : (j : ℕ) → j < l.j → slice_index_or l.cut j 0 ≡ slice_index_or l.words j 0 / 2 ^ l.place % 2 ^ 16;
    }
