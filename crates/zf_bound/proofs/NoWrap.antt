-- Where values are small enough nothing wraps: the lift of a line and the way back are those over whole numbers.
use Rattle.std.proofs.Common.{◌≡◌, refl, sym, subst, ℕ, ◌+◌, ◌*◌, ◌^◌, ◌<◌, ◌≤◌, ℤ, pos, ◌+ℤ◌, ◌-ℤ◌, ◌*ℤ◌, [], ◌∷◌, lt_of_le_of_lt, arith, rules}
use Rattle.std.{specs.Int.RustNames.{unsigned_abs}, specs.Int.{Width}}
use Rattle.std.proofs.lemmas.Int.{ints, fits_signed_from_abs}
use mir.Val.{hbits}
use Rattle.zf_spec.{specs.Numbers.{wrap, floor_half, half}, specs.Lift.{lift_line, unlift_line}}
use Rattle.zf_spec.{proofs.Wrapping.{wrap_value}, proofs.Halves.{floor_half_at_most, floor_half_above}}
use Rattle.zf_bound.proofs.WholeLines.{IsHalf, Averages, Lifts, Unlifts, half_within, average_within, rest_within}

-- ---- one step

-- a small number is not changed
pub whole : (n : Width) (v : ℤ) → unsigned_abs v < 2 ^ hbits n → wrap n v ≡ v
whole n v h = wrap_value n v (fits_signed_from_abs n v h)

pub floor_half_is : (v : ℤ) → IsHalf v (floor_half v)
floor_half_is v = search (rules, floor_half_at_most, floor_half_above, ints)

pub whole_half : (n : Width) (v : ℤ) → unsigned_abs v < 2 ^ hbits n → IsHalf v (half n v)
whole_half n v h = subst (λ u. IsHalf v (floor_half u)) (sym (whole n v h)) (floor_half_is v)

-- a sum of small numbers
sum_fits : (u v : ℤ) (m n k : ℕ) → m + n < k → unsigned_abs u ≤ m → unsigned_abs v ≤ n → unsigned_abs (u +ℤ v) < k
sum_fits u v m n k room f g = omega (arith, ints, room, f, g)

-- two numbers within m are averaged
pub averaged : (n : Width) (u v : ℤ) (m : ℕ) → 2 * m < 2 ^ hbits n → unsigned_abs u ≤ m → unsigned_abs v ≤ m
    → Averages u v (half n (u +ℤ v)) (wrap n (v -ℤ half n (u +ℤ v)))
averaged n u v m room f g =
    let is = whole_half n (u +ℤ v) (sum_fits u v m m _ (omega (arith, room)) f g) in
    record { half_is = is; rest_is = whole n (v -ℤ half n (u +ℤ v)) (rest_fits (half n (u +ℤ v)) is) }
  where
    rest_fits : (h : ℤ) → IsHalf (u +ℤ v) h → unsigned_abs (v -ℤ h) < 2 ^ hbits n
    rest_fits h is = omega (arith, ints, f, g, room, is.least, is.most)

-- ---- a line

-- the line is lifted to a, b, c, d, and nothing wraps
pub record IsLifted (n : Width) (x y z w : ℤ) : Type 0 where
  pub a : ℤ
  pub b : ℤ
  pub c : ℤ
  pub d : ℤ
  pub line : lift_line n x y z w ≡ a ∷ b ∷ c ∷ d ∷ []
  pub lifts : Lifts x y z w a b c d

-- a difference of small numbers, and how large it and a sum are
difference_fits : (u v : ℤ) (m n k : ℕ) → m + n < k → unsigned_abs u ≤ m → unsigned_abs v ≤ n → unsigned_abs (u -ℤ v) < k
difference_fits u v m n k room f g = omega (arith, ints, room, f, g)

sum_within : (u v s : ℤ) (m n : ℕ) → s ≡ u +ℤ v → unsigned_abs u ≤ m → unsigned_abs v ≤ n → unsigned_abs s ≤ m + n
sum_within u v s m n e f g = omega (arith, ints, e, f, g)

difference_within : (u v s : ℤ) (m n : ℕ) → s ≡ u -ℤ v → unsigned_abs u ≤ m → unsigned_abs v ≤ n → unsigned_abs s ≤ m + n
difference_within u v s m n e f g = omega (arith, ints, e, f, g)

-- fact 1: no sum or difference wraps
pub lifted : (n : Width) (x y z w : ℤ) (m : ℕ) → 8 * (m + 4) < 2 ^ hbits n
    → unsigned_abs x ≤ m → unsigned_abs y ≤ m → unsigned_abs z ≤ m → unsigned_abs w ≤ m → IsLifted n x y z w
lifted n x y z w m room x_small y_small z_small w_small =
    let two : 2 * m < 2 ^ hbits n = omega (arith, room) in
    let x1 = half n (x +ℤ w) in
    let w1 = wrap n (w -ℤ x1) in
    let outer : Averages x w x1 w1 = averaged n x w m two x_small w_small in
    let z1 = half n (z +ℤ y) in
    let y1 = wrap n (y -ℤ z1) in
    let inner : Averages z y z1 y1 = averaged n z y m two z_small y_small in
    let x1_small = average_within x w x1 w1 m outer x_small w_small in
    let w1_small = rest_within x w x1 w1 m outer x_small w_small in
    let z1_small = average_within z y z1 y1 m inner z_small y_small in
    let y1_small = rest_within z y z1 y1 m inner z_small y_small in
    let a = half n (x1 +ℤ z1) in
    let c = wrap n (z1 -ℤ a) in
    let sums : Averages x1 z1 a c = averaged n x1 z1 m two x1_small z1_small in
    let w2 = half n (w1 +ℤ y1) in
    let y2 = wrap n (y1 -ℤ w2) in
    let rests : Averages w1 y1 w2 y2 = averaged n w1 y1 m two w1_small y1_small in
    let w2_small = average_within w1 y1 w2 y2 m rests w1_small y1_small in
    let y2_small = rest_within w1 y1 w2 y2 m rests w1_small y1_small in
    let half_y = half n y2 in
    let half_y_is : IsHalf y2 half_y = whole_half n y2 (lt_of_le_of_lt y2_small (omega (arith, room))) in
    let half_y_small = half_within y2 half_y m half_y_is y2_small in
    let d = wrap n (w2 +ℤ half_y) in
    let d_is : d ≡ w2 +ℤ half_y = whole n (w2 +ℤ half_y) (sum_fits w2 half_y m m _ (omega (arith, room)) w2_small half_y_small) in
    let d_small = sum_within w2 half_y d m m d_is w2_small half_y_small in
    let half_d = half n d in
    let half_d_is : IsHalf d half_d = whole_half n d (lt_of_le_of_lt d_small (omega (arith, room))) in
    let half_d_small = half_within d half_d (m + m) half_d_is d_small in
    let b = wrap n (y2 -ℤ half_d) in
    let b_is : b ≡ y2 -ℤ half_d = whole n (y2 -ℤ half_d) (difference_fits y2 half_d m (m + m) _ (omega (arith, room)) y2_small half_d_small) in
    record {
      a = a;
      b = b;
      c = c;
      d = d;
      line = refl;
      lifts = search rules;
    }

-- ---- the way back

-- the coefficients are turned back to x, y, z, w, and nothing wraps
pub record IsUnlifted (n : Width) (a b c d : ℤ) : Type 0 where
  pub x : ℤ
  pub y : ℤ
  pub z : ℤ
  pub w : ℤ
  pub line : unlift_line n a b c d ≡ x ∷ y ∷ z ∷ w ∷ []
  pub unlifts : Unlifts a b c d x y z w

double_fits : (u : ℤ) (m k : ℕ) → 2 * m < k → unsigned_abs u ≤ m → unsigned_abs (pos 2 *ℤ u) < k
double_fits u m k room f = omega (arith, ints, room, f)

-- twice u, less what is u and more: what is left of u
rest_fits : (u v s : ℤ) (m n k : ℕ) → m + n < k → s ≡ v +ℤ u → unsigned_abs u ≤ m → unsigned_abs v ≤ n → unsigned_abs ((u +ℤ u) -ℤ s) < k
rest_fits u v s m n k room e f g = omega (arith, ints, room, e, f, g)

rest_small : (u v s r : ℤ) (m n : ℕ) → r ≡ (u +ℤ u) -ℤ s → s ≡ v +ℤ u → unsigned_abs u ≤ m → unsigned_abs v ≤ n → unsigned_abs r ≤ m + n
rest_small u v s r m n i e f g = omega (arith, ints, i, e, f, g)

-- twice, wrapped, less a number, wrapped
doubled_less : (n : Width) (u v s : ℤ) (k l : ℕ) → 2 * k < 2 ^ hbits n → k + l < 2 ^ hbits n → s ≡ v +ℤ u → unsigned_abs u ≤ k → unsigned_abs v ≤ l
    → wrap n (wrap n (pos 2 *ℤ u) -ℤ s) ≡ (u +ℤ u) -ℤ s
doubled_less n u v s k l double_room room e f g =
    let double : pos 2 *ℤ u ≡ u +ℤ u = omega (arith, ints) in search (rules, whole, double_fits, rest_fits)

-- fact 2, its first half: nothing wraps
pub unlifted : (n : Width) (a b c d : ℤ) (m : ℕ) → 8 * m < 2 ^ hbits n
    → unsigned_abs a ≤ m → unsigned_abs b ≤ m → unsigned_abs c ≤ m → unsigned_abs d ≤ m → IsUnlifted n a b c d
unlifted n a b c d m room a_small b_small c_small d_small =
    let half_d = half n d in
    let half_d_is : IsHalf d half_d = whole_half n d (lt_of_le_of_lt d_small (omega (arith, room))) in
    let half_d_small = half_within d half_d m half_d_is d_small in
    let y1 = wrap n (b +ℤ half_d) in
    let y1_is : y1 ≡ b +ℤ half_d = whole n (b +ℤ half_d) (sum_fits b half_d m m _ (omega (arith, room)) b_small half_d_small) in
    let y1_small = sum_within b half_d y1 m m y1_is b_small half_d_small in
    let half_y = half n y1 in
    let half_y_is : IsHalf y1 half_y = whole_half n y1 (lt_of_le_of_lt y1_small (omega (arith, room))) in
    let half_y_small = half_within y1 half_y (m + m) half_y_is y1_small in
    let w1 = wrap n (d -ℤ half_y) in
    let w1_is : w1 ≡ d -ℤ half_y = whole n (d -ℤ half_y) (difference_fits d half_y m (m + m) _ (omega (arith, room)) d_small half_y_small) in
    let w1_small = difference_within d half_y w1 m (m + m) w1_is d_small half_y_small in
    let y2 = wrap n (y1 +ℤ w1) in
    let y2_is : y2 ≡ y1 +ℤ w1 = whole n (y1 +ℤ w1) (sum_fits y1 w1 (m + m) (m + (m + m)) _ (omega (arith, room)) y1_small w1_small) in
    let y2_small = sum_within y1 w1 y2 (m + m) (m + (m + m)) y2_is y1_small w1_small in
    let w2 = wrap n (wrap n (pos 2 *ℤ w1) -ℤ y2) in
    let w2_is : w2 ≡ (w1 +ℤ w1) -ℤ y2 = doubled_less n w1 y1 y2 (m + (m + m)) (m + m) (omega (arith, room)) (omega (arith, room)) y2_is w1_small y1_small in
    let w2_small = rest_small w1 y1 y2 w2 (m + (m + m)) (m + m) w2_is y2_is w1_small y1_small in
    let z1 = wrap n (c +ℤ a) in
    let z1_is : z1 ≡ c +ℤ a = whole n (c +ℤ a) (sum_fits c a m m _ (omega (arith, room)) c_small a_small) in
    let z1_small = sum_within c a z1 m m z1_is c_small a_small in
    let x1 = wrap n (wrap n (pos 2 *ℤ a) -ℤ z1) in
    let x1_is : x1 ≡ (a +ℤ a) -ℤ z1 = doubled_less n a c z1 m m (omega (arith, room)) (omega (arith, room)) z1_is a_small c_small in
    let x1_small = rest_small a c z1 x1 m m x1_is z1_is a_small c_small in
    let y = wrap n (y2 +ℤ z1) in
    let y_is : y ≡ y2 +ℤ z1 = whole n (y2 +ℤ z1) (sum_fits y2 z1 (m + m + (m + (m + m))) (m + m) _ (omega (arith, room)) y2_small z1_small) in
    let z = wrap n (wrap n (pos 2 *ℤ z1) -ℤ y) in
    let z_is : z ≡ (z1 +ℤ z1) -ℤ y = doubled_less n z1 y2 y (m + m) (m + m + (m + (m + m))) (omega (arith, room)) (omega (arith, room)) y_is z1_small y2_small in
    let w = wrap n (w2 +ℤ x1) in
    let w_is : w ≡ w2 +ℤ x1 = whole n (w2 +ℤ x1) (sum_fits w2 x1 (m + (m + m) + (m + m)) (m + m) _ (omega (arith, room)) w2_small x1_small) in
    let x = wrap n (wrap n (pos 2 *ℤ x1) -ℤ w) in
    let x_is : x ≡ (x1 +ℤ x1) -ℤ w = doubled_less n x1 w2 w (m + m) (m + (m + m) + (m + m)) (omega (arith, room)) (omega (arith, room)) w_is x1_small w2_small in
    record {
      x = x;
      y = y;
      z = z;
      w = w;
      line = refl;
      unlifts = search rules;
    }
