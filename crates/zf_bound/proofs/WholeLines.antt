-- The lift of a line and the way back over whole numbers, where nothing wraps: how large the coefficients are,
-- and how far what comes back is from the line, where the coefficients have an error.
use Rattle.std.proofs.Common.{◌≡◌, ℕ, ◌+◌, ◌*◌, ◌≤◌, ℤ, pos, ◌+ℤ◌, ◌-ℤ◌, ◌≤ℤ◌, le_trans, arith}
use Rattle.std.{specs.Int.RustNames.{unsigned_abs}, proofs.lemmas.Int.{ints}}

-- h is half of s, rounded down
pub record IsHalf (s h : ℤ) : Type 0 where
  pub least : (h +ℤ h) ≤ℤ s
  pub most : s ≤ℤ (h +ℤ h +ℤ pos 1)

-- u and v are averaged: h is half of their sum, and r is what v is more than that
pub record Averages (u v h r : ℤ) : Type 0 where
  pub half_is : IsHalf (u +ℤ v) h
  pub rest_is : r ≡ v -ℤ h

-- the line x, y, z, w is lifted to the coefficients a, b, c, d
pub record Lifts (x y z w a b c d : ℤ) : Type 0 where
  pub x1 : ℤ
  pub w1 : ℤ
  pub z1 : ℤ
  pub y1 : ℤ
  pub w2 : ℤ
  pub y2 : ℤ
  pub half_y : ℤ
  pub half_d : ℤ
  pub outer : Averages x w x1 w1
  pub inner : Averages z y z1 y1
  pub sums : Averages x1 z1 a c
  pub rests : Averages w1 y1 w2 y2
  pub half_y_is : IsHalf y2 half_y
  pub d_is : d ≡ w2 +ℤ half_y
  pub half_d_is : IsHalf d half_d
  pub b_is : b ≡ y2 -ℤ half_d

-- the coefficients a, b, c, d are turned back to the line x, y, z, w
pub record Unlifts (a b c d x y z w : ℤ) : Type 0 where
  pub half_d : ℤ
  pub y1 : ℤ
  pub half_y : ℤ
  pub w1 : ℤ
  pub y2 : ℤ
  pub w2 : ℤ
  pub z1 : ℤ
  pub x1 : ℤ
  pub half_d_is : IsHalf d half_d
  pub y1_is : y1 ≡ b +ℤ half_d
  pub half_y_is : IsHalf y1 half_y
  pub w1_is : w1 ≡ d -ℤ half_y
  pub y2_is : y2 ≡ y1 +ℤ w1
  pub w2_is : w2 ≡ w1 +ℤ w1 -ℤ y2
  pub z1_is : z1 ≡ c +ℤ a
  pub x1_is : x1 ≡ a +ℤ a -ℤ z1
  pub y_is : y ≡ y2 +ℤ z1
  pub z_is : z ≡ z1 +ℤ z1 -ℤ y
  pub w_is : w ≡ w2 +ℤ x1
  pub x_is : x ≡ x1 +ℤ x1 -ℤ w

-- ---- how large the coefficients are

pub half_within : (s h : ℤ) (m : ℕ) → IsHalf s h → unsigned_abs s ≤ m → unsigned_abs h ≤ m
half_within s h m k f = omega (arith, ints, k.least, k.most, f)

pub average_within : (u v h r : ℤ) (m : ℕ) → Averages u v h r → unsigned_abs u ≤ m → unsigned_abs v ≤ m → unsigned_abs h ≤ m
average_within u v h r m k f g = omega (arith, ints, k.half_is.least, k.half_is.most, f, g)

pub rest_within : (u v h r : ℤ) (m : ℕ) → Averages u v h r → unsigned_abs u ≤ m → unsigned_abs v ≤ m → unsigned_abs r ≤ m
rest_within u v h r m k f g = omega (arith, ints, k.half_is.least, k.half_is.most, k.rest_is, f, g)

rotated_d : (w1 y1 w2 y2 half_y d : ℤ) (m : ℕ) → Averages w1 y1 w2 y2 → IsHalf y2 half_y → d ≡ w2 +ℤ half_y
    → unsigned_abs w1 ≤ m → unsigned_abs y1 ≤ m → unsigned_abs d ≤ m + 4
rotated_d w1 y1 w2 y2 half_y d m k h e f g = omega (arith, ints, k.half_is.least, k.half_is.most, k.rest_is, h.least, h.most, e, f, g)

rotated_b : (w1 y1 w2 y2 half_y d half_d b : ℤ) (m : ℕ) → Averages w1 y1 w2 y2 → IsHalf y2 half_y → d ≡ w2 +ℤ half_y → IsHalf d half_d → b ≡ y2 -ℤ half_d
    → unsigned_abs w1 ≤ m → unsigned_abs y1 ≤ m → unsigned_abs b ≤ m + 4
rotated_b w1 y1 w2 y2 half_y d half_d b m k h e j i f g =
    omega (arith, ints, k.half_is.least, k.half_is.most, k.rest_is, h.least, h.most, e, j.least, j.most, i, f, g)

-- of a line within m the coefficients are within m + 4
module _ (x y z w a b c d : ℤ) (m : ℕ) (lifts : Lifts x y z w a b c d)
    (x_small : unsigned_abs x ≤ m) (y_small : unsigned_abs y ≤ m) (z_small : unsigned_abs z ≤ m) (w_small : unsigned_abs w ≤ m) where
  x1_within : unsigned_abs lifts.x1 ≤ m
  x1_within = average_within x w _ _ m lifts.outer x_small w_small

  w1_within : unsigned_abs lifts.w1 ≤ m
  w1_within = rest_within x w _ _ m lifts.outer x_small w_small

  z1_within : unsigned_abs lifts.z1 ≤ m
  z1_within = average_within z y _ _ m lifts.inner z_small y_small

  y1_within : unsigned_abs lifts.y1 ≤ m
  y1_within = rest_within z y _ _ m lifts.inner z_small y_small

  pub a_within : unsigned_abs a ≤ m + 4
  a_within = le_trans (average_within _ _ a c m lifts.sums x1_within z1_within) (omega arith)

  pub b_within : unsigned_abs b ≤ m + 4
  b_within = rotated_b _ _ _ _ _ _ _ b m lifts.rests lifts.half_y_is lifts.d_is lifts.half_d_is lifts.b_is w1_within y1_within

  pub c_within : unsigned_abs c ≤ m + 4
  c_within = le_trans (rest_within _ _ a c m lifts.sums x1_within z1_within) (omega arith)

  pub d_within : unsigned_abs d ≤ m + 4
  d_within = rotated_d _ _ _ _ _ d m lifts.rests lifts.half_y_is lifts.d_is w1_within y1_within

-- ---- the way back. Each lemma has plain numbers, since `omega` reads all that is there.

-- the rotation of two coefficients b and d: its bounds at once, since step by step they would come out too large
rotation : (y1 w2 y2 half_y d half_d b b' d' half_d' y1' half_y' w1' y2' w2' : ℤ) (e : ℕ)
    → y2 ≡ y1 -ℤ w2 → IsHalf y2 half_y → d ≡ w2 +ℤ half_y → IsHalf d half_d → b ≡ y2 -ℤ half_d
    → IsHalf d' half_d' → y1' ≡ b' +ℤ half_d' → IsHalf y1' half_y' → w1' ≡ d' -ℤ half_y' → y2' ≡ y1' +ℤ w1' → w2' ≡ w1' +ℤ w1' -ℤ y2'
    → unsigned_abs (b' -ℤ b) ≤ e → unsigned_abs (d' -ℤ d) ≤ e → (unsigned_abs (y2' -ℤ y1) ≤ 2 * e) × (unsigned_abs (w2' -ℤ (w2 +ℤ w2 -ℤ y1)) ≤ 2 * e + 1)
rotation y1 w2 y2 half_y d half_d b b' d' half_d' y1' half_y' w1' y2' w2' e f1 h1 f2 h2 f3 h3 f4 h4 f5 f6 f7 n1 n2 = (
  omega (arith, ints, f1, h1.least, h1.most, f2, h2.least, h2.most, f3, h3.least, h3.most, f4, h4.least, h4.most, f5, f6, n1, n2),
  omega (arith, ints, f1, h1.least, h1.most, f2, h2.least, h2.most, f3, h3.least, h3.most, f4, h4.least, h4.most, f5, f6, f7, n1, n2),
)

-- the sum and the difference of a and c
sum_near : (z1 a c a' c' z1' : ℤ) (e : ℕ) → c ≡ z1 -ℤ a → z1' ≡ c' +ℤ a' → unsigned_abs (a' -ℤ a) ≤ e → unsigned_abs (c' -ℤ c) ≤ e → unsigned_abs (z1' -ℤ z1) ≤ 2 * e
sum_near z1 a c a' c' z1' e f g n1 n2 = omega (arith, ints, f, g, n1, n2)

difference_near : (z1 a c a' c' z1' x1' : ℤ) (e : ℕ) → c ≡ z1 -ℤ a → z1' ≡ c' +ℤ a' → x1' ≡ a' +ℤ a' -ℤ z1'
    → unsigned_abs (a' -ℤ a) ≤ e → unsigned_abs (c' -ℤ c) ≤ e → unsigned_abs (x1' -ℤ (a +ℤ a -ℤ z1)) ≤ 2 * e
difference_near z1 a c a' c' z1' x1' e f g h n1 n2 = omega (arith, ints, f, g, h, n1, n2)

-- the line
line_y : (y z1 y1 y' z1' y1' : ℤ) (e : ℕ) → y1 ≡ y -ℤ z1 → y' ≡ y1' +ℤ z1' → unsigned_abs (y1' -ℤ y1) ≤ 2 * e → unsigned_abs (z1' -ℤ z1) ≤ 2 * e → unsigned_abs (y' -ℤ y) ≤ 4 * e
line_y y z1 y1 y' z1' y1' e f g n1 n2 = omega (arith, ints, f, g, n1, n2)

line_z : (y z z1 y1 y' z' z1' y1' : ℤ) (e : ℕ) → IsHalf (z +ℤ y) z1 → y1 ≡ y -ℤ z1 → y' ≡ y1' +ℤ z1' → z' ≡ z1' +ℤ z1' -ℤ y'
    → unsigned_abs (y1' -ℤ y1) ≤ 2 * e → unsigned_abs (z1' -ℤ z1) ≤ 2 * e → unsigned_abs (z' -ℤ z) ≤ 4 * e + 1
line_z y z z1 y1 y' z' z1' y1' e h f g k n1 n2 = omega (arith, ints, h.least, h.most, f, g, k, n1, n2)

line_w : (w x1 w1 y1 w2 a z1 w' x1' w2' : ℤ) (e : ℕ) → w1 ≡ w -ℤ x1 → IsHalf (w1 +ℤ y1) w2 → IsHalf (x1 +ℤ z1) a → w' ≡ w2' +ℤ x1'
    → unsigned_abs (w2' -ℤ (w2 +ℤ w2 -ℤ y1)) ≤ 2 * e + 1 → unsigned_abs (x1' -ℤ (a +ℤ a -ℤ z1)) ≤ 2 * e → unsigned_abs (w' -ℤ w) ≤ 4 * e + 3
line_w w x1 w1 y1 w2 a z1 w' x1' w2' e f h k g n1 n2 = omega (arith, ints, f, h.least, h.most, k.least, k.most, g, n1, n2)

line_x : (x w x1 w1 y1 w2 a z1 x' w' x1' w2' : ℤ) (e : ℕ) → IsHalf (x +ℤ w) x1 → w1 ≡ w -ℤ x1 → IsHalf (w1 +ℤ y1) w2 → IsHalf (x1 +ℤ z1) a → w' ≡ w2' +ℤ x1' → x' ≡ x1' +ℤ x1' -ℤ w'
    → unsigned_abs (w2' -ℤ (w2 +ℤ w2 -ℤ y1)) ≤ 2 * e + 1 → unsigned_abs (x1' -ℤ (a +ℤ a -ℤ z1)) ≤ 2 * e → unsigned_abs (x' -ℤ x) ≤ 4 * e + 4
line_x x w x1 w1 y1 w2 a z1 x' w' x1' w2' e j f h k g i n1 n2 = omega (arith, ints, j.least, j.most, f, h.least, h.most, k.least, k.most, g, i, n1, n2)

-- the coefficients that are turned back are within e of those of the line
module _ (x y z w a b c d : ℤ) (a' b' c' d' x' y' z' w' : ℤ) (e : ℕ) (there : Lifts x y z w a b c d) (back : Unlifts a' b' c' d' x' y' z' w')
    (a_near : unsigned_abs (a' -ℤ a) ≤ e) (b_near : unsigned_abs (b' -ℤ b) ≤ e) (c_near : unsigned_abs (c' -ℤ c) ≤ e) (d_near : unsigned_abs (d' -ℤ d) ≤ e) where
  turned : (unsigned_abs (back.y2 -ℤ there.y1) ≤ 2 * e) × (unsigned_abs (back.w2 -ℤ (there.w2 +ℤ there.w2 -ℤ there.y1)) ≤ 2 * e + 1)
  turned =
      rotation _ _ _ _ _ _ _ _ _ _ _ _ _ _ _ e there.rests.rest_is there.half_y_is there.d_is there.half_d_is there.b_is
      back.half_d_is back.y1_is back.half_y_is back.w1_is back.y2_is back.w2_is b_near d_near

  z1_near : unsigned_abs (back.z1 -ℤ there.z1) ≤ 2 * e
  z1_near = sum_near _ _ _ _ _ _ e there.sums.rest_is back.z1_is a_near c_near

  x1_near : unsigned_abs (back.x1 -ℤ (a +ℤ a -ℤ there.z1)) ≤ 2 * e
  x1_near = difference_near _ _ _ _ _ _ _ e there.sums.rest_is back.z1_is back.x1_is a_near c_near

  pub y_near : unsigned_abs (y' -ℤ y) ≤ 4 * e
  y_near = line_y _ _ _ _ _ _ e there.inner.rest_is back.y_is turned.0 z1_near

  pub z_near : unsigned_abs (z' -ℤ z) ≤ 4 * e + 1
  z_near = line_z _ _ _ _ _ _ _ _ e there.inner.half_is there.inner.rest_is back.y_is back.z_is turned.0 z1_near

  pub w_near : unsigned_abs (w' -ℤ w) ≤ 4 * e + 3
  w_near = line_w _ _ _ _ _ _ _ _ _ _ e there.outer.rest_is there.rests.half_is there.sums.half_is back.w_is turned.1 x1_near

  pub x_near : unsigned_abs (x' -ℤ x) ≤ 4 * e + 4
  x_near = line_x _ _ _ _ _ _ _ _ _ _ _ _ e there.outer.half_is there.outer.rest_is there.rests.half_is there.sums.half_is back.w_is back.x_is turned.1 x1_near
