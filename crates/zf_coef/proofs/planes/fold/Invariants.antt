use Rattle.std.proofs.Common.{◌≡◌, ℕ, ◌<◌, ◌+◌, ◌*◌, ◌/◌, ◌%◌, length}
use Rattle.zf_coef.specs.Turned.{bit_of}
use Rattle.zf_coef.proofs.planes.fold.Given as goal

abbrev pub invariant-loop-r : goal.invariant-loop-r
invariant-loop-r g l =
    record {
      long : length l.words ≡ g.row.N;
      cut : (r : ℕ) → r < l.r → (i : ℕ) → i < 64 → bit_of l.words r i ≡ bit_of l.digits (i / 32 * g.row.N + r) (l.from + i % 32);
    }
