-- Positions in a box and their raster numbers.
use Rattle.std.proofs.Common.{◌≡◌, refl, ap, ◌∙◌, ℕ, zero, suc, ◌+◌, ◌*◌, ◌/◌, ◌%◌, ◌^◌, ◌<◌, ◌≤◌, true, ltb, ltb-true, lt-ltb, List, [], ◌∷◌, length, All, mod-lt, mod-eq_of_lt, pow-suc, div-add-mod', mul-le-mul_left, arith}
use Rattle.std.proofs.Math.Nat.{add-mul-mod_self_left, add-mul-div_left, div-eq_of_lt}
use Rattle.std.{proofs.lemmas.Bool.{and_from, and_parts}, proofs.lemmas.Nat.{div_below}}
use Rattle.std.proofs.lemmas.List.Elements.{All-head, All-tail}
use Rattle.zf_spec.specs.Grid.{product, coordinates, raster, is_inside, extents, fours, indices}

pub product-fours : (d : ℕ) → product (fours d) ≡ 4 ^ d
product-fours zero = refl
product-fours (suc d) = omega (arith, product-fours d, pow-suc 4 d)

-- ---- how long lists of coordinates are

pub length-fours : (d : ℕ) → length (fours d) ≡ d
length-fours zero = refl
length-fours (suc d) = ap suc (length-fours d)

pub length-coordinates : (ns : List ℕ) (k : ℕ) → length (coordinates ns k) ≡ length ns
length-coordinates [] k = refl
length-coordinates (n ∷ ns) k = ap suc (length-coordinates ns (k / n))

pub length-indices : (d p : ℕ) → length (indices d p) ≡ d
length-indices d p = length-coordinates (fours d) p ∙ length-fours d

pub length-extents : (ns cs : List ℕ) → length cs ≡ length ns → length (extents ns cs) ≡ length ns
length-extents [] cs e = refl
length-extents (n ∷ ns) [] e = absurd (omega arith)
length-extents (n ∷ ns) (c ∷ cs) e = ap suc (length-extents ns cs (omega arith))

-- ---- positions

-- the coordinates of a raster number are inside the box
pub is_inside-coordinates : (ns : List ℕ) (k : ℕ) → All (λ n. 1 ≤ n) ns → is_inside ns (coordinates ns k) ≡ true
is_inside-coordinates [] k h = refl
is_inside-coordinates (n ∷ ns) k h =
    let some : 0 < n = All-head (λ n. 1 ≤ n) n ns h in
    and_from (ltb (k % n) n) (is_inside ns (coordinates ns (k / n))) (lt-ltb (k % n) n (mod-lt k some)) (is_inside-coordinates ns (k / n) (All-tail (λ n. 1 ≤ n) n ns h))

-- a raster number is that of its coordinates
pub raster-coordinates : (ns : List ℕ) (k : ℕ) → k < product ns → raster ns (coordinates ns k) ≡ k
raster-coordinates [] k h = omega arith
raster-coordinates (zero ∷ ns) k h = absurd (omega arith)
raster-coordinates (suc m ∷ ns) k h =
    let rest = raster-coordinates ns (k / suc m) (div_below k (suc m) (product ns) (omega arith) (omega arith)) in
    ap (λ r. k % suc m + suc m * r) rest ∙ omega (arith, div-add-mod' k (suc m))

-- a position is that of its raster number
pub coordinates-raster : (ns ps : List ℕ) → length ps ≡ length ns → is_inside ns ps ≡ true → coordinates ns (raster ns ps) ≡ ps
coordinates-raster [] [] l h = refl
coordinates-raster (n ∷ ns) (p ∷ ps) l h =
    let parts = and_parts (ltb p n) (is_inside ns ps) h in
    let small : p < n = ltb-true p n parts.0 in
    let some : 0 < n = omega arith in
    let first : (p + n * raster ns ps) % n ≡ p = add-mul-mod_self_left p n (raster ns ps) ∙ mod-eq_of_lt small in
    let others : (p + n * raster ns ps) / n ≡ raster ns ps = add-mul-div_left p (raster ns ps) some ∙ ap (λ q. q + raster ns ps) (div-eq_of_lt small) ∙ omega arith in
    cc (coordinates-raster ns ps (omega arith) parts.1)
coordinates-raster ns ps l h = cc

-- the raster number of a position in the box is below the number of positions
pub raster_below : (ns ps : List ℕ) → length ps ≡ length ns → is_inside ns ps ≡ true → raster ns ps < product ns
raster_below [] [] l h = omega arith
raster_below (n ∷ ns) (p ∷ ps) l h =
    let parts = and_parts (ltb p n) (is_inside ns ps) h in
    omega (arith, ltb-true p n parts.0, mul-le-mul_left n (raster_below ns ps (omega arith) parts.1))
raster_below ns ps l h = cc
