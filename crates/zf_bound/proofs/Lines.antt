-- The two facts of a line: how large its coefficients are, and how far what comes back is from it, where they have an error.
use Rattle.std.proofs.Common.{sym, subst, ℕ, suc, ◌+◌, ◌*◌, ◌^◌, ◌<◌, ◌≤◌, ℤ, pos, ◌-ℤ◌, List, [], ◌∷◌, get_or, arith, rules}
use Rattle.std.{specs.Int.RustNames.{unsigned_abs}, specs.Int.{Width}, proofs.lemmas.Int.{ints}}
use mir.Val.{hbits}
use Rattle.zf_spec.specs.Lift.{lift_line, unlift_line}
use Rattle.zf_bound.proofs.WholeLines.{a_within, b_within, c_within, d_within, x_near, y_near, z_near, w_near}
use Rattle.zf_bound.proofs.NoWrap.{IsLifted, lifted, IsUnlifted, unlifted}

-- v' is within e of v
abbrev pub IsNear : ℕ → ℤ → ℤ → Type 0
IsNear e v v' = unsigned_abs (v' -ℤ v) ≤ e

pub zero_within : (m : ℕ) → unsigned_abs (pos 0) ≤ m
zero_within m = omega (arith, ints)

near_more : (v v' : ℤ) (e f : ℕ) → e ≤ f → IsNear e v v' → IsNear f v v'
near_more v v' e f h k = omega (arith, h, k)

within_of_near : (v v' : ℤ) (m e : ℕ) → unsigned_abs v ≤ m → IsNear e v v' → unsigned_abs v' ≤ m + e
within_of_near v v' m e f g = omega (arith, ints, f, g)

-- element i of a line
abbrev pub of_four : ℤ → ℤ → ℤ → ℤ → ℕ → ℤ
of_four x y z w i = get_or (x ∷ y ∷ z ∷ w ∷ []) i (pos 0)

four_within : (a b c d : ℤ) (m i : ℕ) → unsigned_abs a ≤ m → unsigned_abs b ≤ m → unsigned_abs c ≤ m → unsigned_abs d ≤ m → unsigned_abs (of_four a b c d i) ≤ m
four_within a b c d m (suc (suc (suc (suc i)))) f g h k = omega (arith, ints)
four_within a b c d m i f g h k = search rules

four_near : (x y z w x' y' z' w' : ℤ) (e i : ℕ) → IsNear e x x' → IsNear e y y' → IsNear e z z' → IsNear e w w' → IsNear e (of_four x y z w i) (of_four x' y' z' w' i)
four_near x y z w x' y' z' w' e (suc (suc (suc (suc i)))) f g h k = omega (arith, ints)
four_near x y z w x' y' z' w' e i f g h k = search rules

-- fact 1: of a line within m each coefficient is within m + 4
pub lift_line_within : (n : Width) (x y z w : ℤ) (m : ℕ) → 8 * (m + 4) < 2 ^ hbits n
    → unsigned_abs x ≤ m → unsigned_abs y ≤ m → unsigned_abs z ≤ m → unsigned_abs w ≤ m → (i : ℕ) → unsigned_abs (get_or (lift_line n x y z w) i (pos 0)) ≤ m + 4
lift_line_within n x y z w m room f g h k i =
    let line = lifted n x y z w m room f g h k in
    subst (λ (l : List ℤ). unsigned_abs (get_or l i (pos 0)) ≤ m + 4) (sym line.line)
    (four_within line.a line.b line.c line.d (m + 4) i
    (a_within _ _ _ _ _ _ _ _ m line.lifts f g h k) (b_within _ _ _ _ _ _ _ _ m line.lifts f g h k)
    (c_within _ _ _ _ _ _ _ _ m line.lifts f g h k) (d_within _ _ _ _ _ _ _ _ m line.lifts f g h k))

module _ (n : Width) (x y z w a b c d : ℤ) (m e : ℕ) (there : IsLifted n x y z w) (room : 8 * (m + 4 + e) < 2 ^ hbits n)
    (f : unsigned_abs x ≤ m) (g : unsigned_abs y ≤ m) (h : unsigned_abs z ≤ m) (k : unsigned_abs w ≤ m)
    (na : IsNear e there.a a) (nb : IsNear e there.b b) (nc : IsNear e there.c c) (nd : IsNear e there.d d) where
  -- nothing wraps on the way back
  back : IsUnlifted n a b c d
  back =
      unlifted n a b c d (m + 4 + e) room
      (within_of_near there.a a (m + 4) e (a_within _ _ _ _ _ _ _ _ m there.lifts f g h k) na)
      (within_of_near there.b b (m + 4) e (b_within _ _ _ _ _ _ _ _ m there.lifts f g h k) nb)
      (within_of_near there.c c (m + 4) e (c_within _ _ _ _ _ _ _ _ m there.lifts f g h k) nc)
      (within_of_near there.d d (m + 4) e (d_within _ _ _ _ _ _ _ _ m there.lifts f g h k) nd)

  -- what comes back of a line
  turned_near : (i : ℕ) → IsNear (4 * e + 4) (of_four x y z w i) (get_or (unlift_line n a b c d) i (pos 0))
  turned_near i =
      subst (λ (l : List ℤ). IsNear (4 * e + 4) (of_four x y z w i) (get_or l i (pos 0))) (sym back.line)
      (four_near x y z w back.x back.y back.z back.w (4 * e + 4) i
      (x_near _ _ _ _ _ _ _ _ _ _ _ _ _ _ _ _ e there.lifts back.unlifts na nb nc nd)
      (near_more y back.y (4 * e) (4 * e + 4) (omega arith) (y_near _ _ _ _ _ _ _ _ _ _ _ _ _ _ _ _ e there.lifts back.unlifts na nb nc nd))
      (near_more z back.z (4 * e + 1) (4 * e + 4) (omega arith) (z_near _ _ _ _ _ _ _ _ _ _ _ _ _ _ _ _ e there.lifts back.unlifts na nb nc nd))
      (near_more w back.w (4 * e + 3) (4 * e + 4) (omega arith) (w_near _ _ _ _ _ _ _ _ _ _ _ _ _ _ _ _ e there.lifts back.unlifts na nb nc nd)))

-- fact 2: where each number is within e of a coefficient of the line, each value that comes back is within 4 * e + 4 of the line's
pub unlift_line_near : (n : Width) (x y z w a b c d : ℤ) (m e : ℕ) → 8 * (m + 4 + e) < 2 ^ hbits n
    → unsigned_abs x ≤ m → unsigned_abs y ≤ m → unsigned_abs z ≤ m → unsigned_abs w ≤ m
    → ((k : ℕ) → k < 4 → IsNear e (get_or (lift_line n x y z w) k (pos 0)) (of_four a b c d k))
    → (i : ℕ) → IsNear (4 * e + 4) (of_four x y z w i) (get_or (unlift_line n a b c d) i (pos 0))
unlift_line_near n x y z w a b c d m e room f g h k near i =
    let there = lifted n x y z w m (omega (arith, room)) f g h k in
    let at = λ (j : ℕ) (small : j < 4). subst (λ (l : List ℤ). IsNear e (get_or l j (pos 0)) (of_four a b c d j)) there.line (near j small) in
    turned_near n x y z w a b c d m e there room f g h k (at 0 (omega arith)) (at 1 (omega arith)) (at 2 (omega arith)) (at 3 (omega arith)) i
