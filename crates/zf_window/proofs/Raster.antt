-- The positions of a window in raster order.
use Rattle.std.proofs.Common.{◌≡◌, ℕ, suc, ◌+◌, ◌-◌, ◌*◌, ◌≤◌, ◌<◌, true, leb, ltb, ltb-true, List, [], ◌∷◌, ◌++◌, map, length, take, replicate, ap, sym, subst, ◌∙◌, arith, rules}
use Rattle.std.proofs.lemmas.Bool.{and_parts, leb-true}
use Rattle.std.proofs.Math.Nat.{mul-le-mul_left, mul-le-mul_right, le-mul_of_pos_right}
use Rattle.zf_spec.{specs.Grid.{product, coordinates, is_inside}, proofs.Raster.{length-coordinates}}
use Rattle.zf_base.{specs.declared.position.Pos.{Pos}}
use Rattle.zf_base.specs.Positions.{axes, used_axes, with_unused, IsPosition}
use Rattle.zf_base.proofs.Boxes.{is_inside-coordinates, product-append_ones, coordinates-append_ones}
use Rattle.zf_cached.specs.Windows.{Window, LiesIn, stepped, none_zero}
use Rattle.zf_window.{proofs.Axes.{sizes_four, IsPosition-inside}}

take_prefix : (xs ys : List ℕ) (n : ℕ) → length xs ≡ n → take n (xs ++ ys) ≡ xs
take_prefix (x ∷ xs) ys (suc n) long = ap (λ rest. x ∷ rest) (take_prefix xs ys n (omega arith))
take_prefix x ys y long = search rules

-- a box has as many positions along four axes as along the used ones
pub product_used : (d : ℕ) (size : Pos) → d ≤ 4 → size ≡ with_unused 1 (used_axes d size) → product (axes size) ≡ product (used_axes d size)
product_used d size dims sizes = ap product (sizes_four d size size dims sizes) ∙ product-append_ones (used_axes d size) (4 - d)

-- the position with number k of a box
module _ (d : ℕ) (size p : Pos) (k : ℕ) (dims : d ≤ 4) (sizes : size ≡ with_unused 1 (used_axes d size)) (below : k < product (used_axes d size)) (is : axes p ≡ coordinates (axes size) k) where
  pub position_inside : IsPosition (used_axes d size) p
  position_inside =
      IsPosition-inside d size p dims sizes
      (subst (λ ps. is_inside (axes size) ps ≡ true) (sym is) (is_inside-coordinates (axes size) k (omega (arith, below, product_used d size dims sizes))))

  pub used_is : length (used_axes d size) ≡ d → used_axes d p ≡ coordinates (used_axes d size) k
  used_is long =
      ap (take d) (is ∙ ap (λ ns. coordinates ns k) (sizes_four d size size dims sizes) ∙ coordinates-append_ones (used_axes d size) (4 - d) k)
      ∙ take_prefix (coordinates (used_axes d size) k) (replicate (4 - d) 0) d (length-coordinates (used_axes d size) k ∙ long)

-- ---- a window has no more positions than its array

size_below : (n o t s : ℕ) → 1 ≤ s → 1 ≤ t → o + (s - 1) * t < n → s ≤ n
size_below n o t s some step last = omega (arith, some, last, le-mul_of_pos_right {m = t} (s - 1) (omega (arith, step)))

product_lists : (ns os ss ts : List ℕ) → length os ≡ length ns → length ss ≡ length ns → length ts ≡ length ns → none_zero ss ≡ true → none_zero ts ≡ true
    → is_inside ns (stepped os ts (map (λ n. n - 1) ss)) ≡ true → product ss ≤ product ns
product_lists [] os [] ts a b c some steps inside = omega arith
product_lists (n ∷ ns) (o ∷ os) (s ∷ ss) (t ∷ ts) a b c some steps inside =
    let one = and_parts (leb 1 s) (none_zero ss) some in
    let two = and_parts (leb 1 t) (none_zero ts) steps in
    let three = and_parts (ltb (o + (s - 1) * t) n) (is_inside ns (stepped os ts (map (λ m. m - 1) ss))) inside in
    let first : s ≤ n = size_below n o t s (leb-true 1 s one.0) (leb-true 1 t two.0) (ltb-true (o + (s - 1) * t) n three.0) in
    let rest : product ss ≤ product ns = product_lists ns os ss ts (omega arith) (omega arith) (omega arith) one.1 two.1 three.1 in
    omega (arith, mul-le-mul_left {m = product ss} {n = product ns} s rest, mul-le-mul_right {m = s} {n = n} (product ns) first)
product_lists x os ss ts a b c some steps inside = absurd (omega arith)

pub product_window : (ns : List ℕ) (w : Window) → LiesIn ns w → product w.size ≤ product ns
product_window ns w lies = search (rules, and_parts, product_lists)
