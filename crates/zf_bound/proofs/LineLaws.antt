-- The two facts of a line, as the laws state them.
use Rattle.std.{proofs.Common.{ℕ, ◌+◌, ◌-◌, ◌*◌, ◌^◌, ◌<◌, ℤ, [], ◌∷◌, arith}, specs.Int.{Width}}
use mir.Val.{bits}
use Rattle.zf_spec.specs.Lift.{lift_line, unlift_line}
use Rattle.zf_bound.{specs.Errors.{AreWithin, AreClose}, proofs.Lines.{lift_line_within, unlift_line_near}}
use Rattle.zf_bound.proofs.Blocks.{power_half}

pub coefficients_within : (w : Width) (x y z v : ℤ) (m : ℕ) → 8 * (m + 4) < 2 ^ (bits w - 1) → AreWithin m (x ∷ y ∷ z ∷ v ∷ []) → AreWithin (m + 4) (lift_line w x y z v)
coefficients_within w x y z v m room small i =
    lift_line_within w x y z v m (omega (arith, room, power_half w)) (small 0) (small 1) (small 2) (small 3) i

pub values_close : (w : Width) (x y z v a b c d : ℤ) (m e : ℕ) → 8 * (m + 4 + e) < 2 ^ (bits w - 1) → AreWithin m (x ∷ y ∷ z ∷ v ∷ [])
    → AreClose e (lift_line w x y z v) (a ∷ b ∷ c ∷ d ∷ []) → AreClose (4 * e + 4) (x ∷ y ∷ z ∷ v ∷ []) (unlift_line w a b c d)
values_close w x y z v a b c d m e room small near i =
    unlift_line_near w x y z v a b c d m e (omega (arith, room, power_half w)) (small 0) (small 1) (small 2) (small 3) (λ k below. near k) i
