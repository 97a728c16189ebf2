use Rattle.std.proofs.Common.{◌≡◌, ℕ, ◌<◌, ◌+◌, ◌*◌, ◌/◌, ◌%◌, length}
use Rattle.zf_coef.specs.Turned.{bit_of}
use Rattle.zf_coef.proofs.planes.fold_four.Given as goal

abbrev pub invariant-loop-r : goal.invariant-loop-r
invariant-loop-r l =
    record {
      long : length l.words ≡ 16;
      cut : (r : ℕ) → r < l.r → (i : ℕ) → i < 64 → bit_of l.words r i ≡ bit_of l.digits (i / 16 * 16 + r) (i % 16);
    }
