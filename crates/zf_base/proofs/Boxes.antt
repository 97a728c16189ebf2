-- The numbering of the positions of a box.
use Rattle.std.proofs.Common.{◌≡◌, ℕ, zero, suc, ◌+◌, ◌-◌, ◌*◌, ◌/◌, ◌%◌, ◌<◌, ◌≤◌, min, true, nat_lt, List, [], ◌∷◌, ◌++◌, length, replicate, refl, ap, arith, rules}
use Rattle.std.{specs.List.{AllByRecursion}, proofs.lemmas.Nat.{mul-add-lt, mod_below, div_below}}
use Rattle.std.proofs.lemmas.Bool.{and_parts, and_from, ltb-true, lt-ltb}
use Rattle.std.proofs.Math.Nat.{le-mul_of_pos_right, mul-pos}
use Rattle.zf_spec.specs.Grid.{product, raster, coordinates, is_inside, extents}
use Rattle.zf_base.{specs.declared.position.Pos.{Pos}, specs.Positions.{axes}}

-- a product that is more than some number has no factor zero
pub factor_not_zero : (n m k : ℕ) → k < n * m → 0 < n
factor_not_zero _ m k h = search rules

-- a position in a box has a number below the count of positions
pub raster-lt : (ns ps : List ℕ) → is_inside ns ps ≡ true → raster ns ps < product ns
raster-lt (n ∷ ns) (p ∷ ps) h =
    let parts = and_parts (nat_lt p n) (is_inside ns ps) h in
    omega (arith, mul-add-lt (raster ns ps) n p (product ns) (raster-lt ns ps parts.1) (ltb-true p n parts.0))
raster-lt _ ps h = search rules

-- so are the numbers that its sum passes through, which are those along fewer axes
raster_step : (n p : ℕ) (ns ps : List ℕ) (most : ℕ) → is_inside (n ∷ ns) (p ∷ ps) ≡ true → product (n ∷ ns) < most → (raster (n ∷ ns) (p ∷ ps) < most) × (is_inside ns ps ≡ true) × (product ns < most)
raster_step n p ns ps most h fits = search (rules, and_parts, ltb-true, raster-lt, le-mul_of_pos_right)

pub raster_steps : (n p : Pos) (most : ℕ) → is_inside (axes n) (axes p) ≡ true → product (axes n) < most → (p.z + n.z * p.w < most) × (p.y + n.y * (p.z + n.z * p.w) < most) × (p.x + n.x * (p.y + n.y * (p.z + n.z * p.w)) < most)
raster_steps n p most h fits =
    let four = raster_step n.x p.x (n.y ∷ n.z ∷ n.w ∷ []) (p.y ∷ p.z ∷ p.w ∷ []) most h fits in
    let three = raster_step n.y p.y (n.z ∷ n.w ∷ []) (p.z ∷ p.w ∷ []) most four.1 four.2 in
    let two = raster_step n.z p.z (n.w ∷ []) (p.w ∷ []) most three.1 three.2 in
    (omega (arith, two.0), omega (arith, three.0), omega (arith, four.0))

-- the first factors of a product with no zero are no more than all of it
pub product_prefix : (n : Pos) → AllByRecursion (λ k. 1 ≤ k) (axes n) → n.x * n.y ≤ product (axes n)
product_prefix n h =
    omega (arith, le-mul_of_pos_right {m = n.z * n.w} (n.x * n.y) (mul-pos h.1.1.0 h.1.1.1.0))

-- a number below the count is that of a position in the box, and of no other
pub is_inside-coordinates : (ns : List ℕ) (k : ℕ) → k < product ns → is_inside ns (coordinates ns k) ≡ true
is_inside-coordinates [] k h = refl
is_inside-coordinates (n ∷ ns) k h =
    let n_pos = factor_not_zero n (product ns) k h in
    and_from (nat_lt (k % n) n) (is_inside ns (coordinates ns (k / n))) (lt-ltb (k % n) n (mod_below k n n_pos)) (is_inside-coordinates ns (k / n) (div_below k n (product ns) n_pos (omega arith)))

-- ---- more axes, along which there is one position only

pub product-append_ones : (ns : List ℕ) (k : ℕ) → product (ns ++ replicate k 1) ≡ product ns
product-append_ones [] zero = refl
product-append_ones [] (suc k) = omega (arith, product-append_ones [] k)
product-append_ones (n ∷ ns) k = ap (λ m. n * m) (product-append_ones ns k)

raster-zeros : (ms : List ℕ) (k : ℕ) → raster ms (replicate k 0) ≡ 0
raster-zeros (m ∷ ms) (suc k) = rw (raster-zeros ms k) (omega arith)
raster-zeros _ k = refl

pub raster-append_zeros : (ns ms ps : List ℕ) (k : ℕ) → length ps ≡ length ns → raster (ns ++ ms) (ps ++ replicate k 0) ≡ raster ns ps
raster-append_zeros [] ms [] k e = raster-zeros ms k
raster-append_zeros (n ∷ ns) ms (p ∷ ps) k e = ap (λ r. p + n * r) (raster-append_zeros ns ms ps k (omega arith))
raster-append_zeros _ ms _ k e = absurd (omega arith)

pub is_inside-append_ones : (ns ps : List ℕ) (k : ℕ) → length ps ≡ length ns → is_inside ns ps ≡ true → is_inside (ns ++ replicate k 1) (ps ++ replicate k 0) ≡ true
is_inside-append_ones [] [] (suc k) e h = is_inside-append_ones [] [] k refl refl
is_inside-append_ones (n ∷ ns) (p ∷ ps) k e h =
    let parts = and_parts (nat_lt p n) (is_inside ns ps) h in
    and_from (nat_lt p n) (is_inside (ns ++ replicate k 1) (ps ++ replicate k 0)) parts.0 (is_inside-append_ones ns ps k (omega arith) parts.1)
is_inside-append_ones _ _ k e h = search rules

pub coordinates-append_ones : (ns : List ℕ) (k b : ℕ) → coordinates (ns ++ replicate k 1) b ≡ coordinates ns b ++ replicate k 0
coordinates-append_ones [] zero b = refl
coordinates-append_ones [] (suc k) b =
    let none : b % 1 ≡ 0 = omega arith in rw (none, coordinates-append_ones [] k (b / 1))
coordinates-append_ones (n ∷ ns) k b = ap (λ cs. b % n ∷ cs) (coordinates-append_ones ns k (b / n))

pub extents-append_ones : (ns cs : List ℕ) (k : ℕ) → length cs ≡ length ns → extents (ns ++ replicate k 1) (cs ++ replicate k 0) ≡ extents ns cs ++ replicate k 1
extents-append_ones [] [] (suc k) e = ap (λ es. 1 ∷ es) (extents-append_ones [] [] k refl)
extents-append_ones (n ∷ ns) (c ∷ cs) k e = ap (λ es. min 4 (n - 4 * c) ∷ es) (extents-append_ones ns cs k (omega arith))
extents-append_ones _ _ k e = search rules
