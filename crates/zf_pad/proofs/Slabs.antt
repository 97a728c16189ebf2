-- A slab of an array is an array of its own.
use Rattle.std.proofs.Common.{rules, ◌≡◌, refl, sym, ap, ◌∙◌, ℕ, zero, suc, ◌+◌, ◌-◌, ◌*◌, ◌/◌, ◌%◌, ◌^◌, ◌<◌, ◌≤◌, min, true, cond, ltb, ℤ, pos, List, [], ◌∷◌, length, get_or, drop, mul_assoc, mod-eq_of_lt, arith}
use Rattle.std.proofs.Math.Nat.{add-mul-mod_self_left, add-mul-div_left, mul-add, mul-le-mul_left}
use Rattle.std.{specs.List.{AllByRecursion}, proofs.lemmas.Nat.{div_below}}
use Rattle.std.proofs.lemmas.Bool.{and_parts, and_from, ltb-true, lt-ltb, false≢true}
use Rattle.std.proofs.lemmas.List.{length-map, get_or-take, get_or-drop}
use Rattle.zf_spec.specs.Grid.{IsShape, product, grid, blocks, coordinates, raster, is_inside, indices, extents, extent_of, position_in, value_at, block_of}
use Rattle.zf_spec.{proofs.Counting.{map-upto_same}, proofs.Raster.{length-coordinates, length-indices}}
use Rattle.zf_spec.specs.Codes.{existing_values}
use Rattle.zf_base.{specs.Places.{IsAt}, proofs.Boxes.{raster-lt, is_inside-coordinates}}
use Rattle.zf_base.{proofs.Places.{IsAt-inside}, specs.declared.position.Extent.{Extent}}
use Rattle.zf_base.{specs.Positions.{used_axes, IsPosition}, proofs.Extents.{length-used_axes}}
use Rattle.zf_pad.{specs.declared.layout.Layout.{Layout}, specs.Rasters.{IsRaster, IsRasterBlock}}
use Rattle.zf_pad.{specs.Copies.{IsGathered}, proofs.Blocks.{cond_same, gathered_block}}
use Rattle.zf_pad.specs.Slabs.{rows_of, row_len, with_rows, rows_on, IsSlab, slab_of, first_block}

-- ---- sizes

pub length-with_rows : (rows : ℕ) (ns : List ℕ) → length (with_rows rows ns) ≡ length ns
length-with_rows rows [] = refl
length-with_rows rows (n ∷ []) = refl
length-with_rows rows (n ∷ m ∷ ns) = ap suc (length-with_rows rows (m ∷ ns))

pub product-with_rows : (rows : ℕ) (ns : List ℕ) → 1 ≤ length ns → product (with_rows rows ns) ≡ row_len ns * rows
product-with_rows rows [] some = absurd (omega arith)
product-with_rows rows (n ∷ []) some = omega arith
product-with_rows rows (n ∷ m ∷ ns) some = ap (λ k. n * k) (product-with_rows rows (m ∷ ns) (omega arith)) ∙ sym (mul_assoc n (row_len (m ∷ ns)) rows)

pub grid-with_rows : (rows : ℕ) (ns : List ℕ) → grid (with_rows rows ns) ≡ with_rows ((rows + 3) / 4) (grid ns)
grid-with_rows rows [] = refl
grid-with_rows rows (n ∷ []) = refl
grid-with_rows rows (n ∷ m ∷ ns) = ap (λ gs. (n + 3) / 4 ∷ gs) (grid-with_rows rows (m ∷ ns))

pub rows_of-grid : (ns : List ℕ) → 1 ≤ length ns → rows_of (grid ns) ≡ (rows_of ns + 3) / 4
rows_of-grid [] some = absurd (omega arith)
rows_of-grid (n ∷ []) some = refl
rows_of-grid (n ∷ m ∷ ns) some = rows_of-grid (m ∷ ns) (omega arith)

pub with_all_rows : (ns : List ℕ) → with_rows (rows_of ns) ns ≡ ns
with_all_rows [] = refl
with_all_rows (n ∷ []) = refl
with_all_rows (n ∷ m ∷ ns) = ap (λ ms. n ∷ ms) (with_all_rows (m ∷ ns))

pub product-rows : (ns : List ℕ) → 1 ≤ length ns → product ns ≡ row_len ns * rows_of ns
product-rows ns some = ap product (sym (with_all_rows ns)) ∙ product-with_rows (rows_of ns) ns some

pub blocks-with_rows : (rows : ℕ) (ns : List ℕ) → 1 ≤ length ns → blocks (with_rows rows ns) ≡ first_block ns ((rows + 3) / 4)
blocks-with_rows rows ns some =
    ap product (grid-with_rows rows ns) ∙ product-with_rows ((rows + 3) / 4) (grid ns) (omega (arith, length-map ns (λ n. (n + 3) / 4)))

-- ---- positions

-- numbers so many rows on
pub coordinates-rows_on : (ns : List ℕ) (first rows i : ℕ) → 1 ≤ length ns → first + rows ≤ rows_of ns → i < product (with_rows rows ns)
    → coordinates ns (row_len ns * first + i) ≡ rows_on first (coordinates (with_rows rows ns) i)
coordinates-rows_on [] first rows i some within lt = absurd (omega arith)
coordinates-rows_on (n ∷ []) first rows i some within lt = search (rules, mod-eq_of_lt)
coordinates-rows_on (n ∷ m ∷ ns) first rows i some within lt =
    let r = row_len (m ∷ ns) in
    let all = product (with_rows rows (m ∷ ns)) in
    let sum : n * r * first + i ≡ i + n * (r * first) = omega (arith, mul_assoc n r first) in
    let positive : 0 < n = not_zero n all i lt in
    let first_is : (n * r * first + i) % n ≡ i % n = ap (λ k. k % n) sum ∙ add-mul-mod_self_left i n (r * first) in
    let rest_is : (n * r * first + i) / n ≡ r * first + i / n = ap (λ k. k / n) sum ∙ add-mul-div_left i (r * first) positive ∙ omega arith in
    let below : i / n < all = div_below i n all positive (omega arith) in
    let behind = coordinates-rows_on (m ∷ ns) first rows (i / n) (omega arith) within below in
    ap (λ p. p ∷ coordinates (m ∷ ns) ((n * r * first + i) / n)) first_is
    ∙ ap (λ ps. i % n ∷ ps) (ap (coordinates (m ∷ ns)) rest_is ∙ behind)
    ∙ headed (i % n) first m ns rows (i / n)
  where
    not_zero : (n m k : ℕ) → k < n * m → 0 < n
    not_zero zero m k h = omega arith
    not_zero (suc n) m k h = omega arith

    headed : (p r m : ℕ) (ns : List ℕ) (rows k : ℕ) → p ∷ rows_on r (coordinates (with_rows rows (m ∷ ns)) k) ≡ rows_on r (p ∷ coordinates (with_rows rows (m ∷ ns)) k)
    headed p r m [] rows k = refl
    headed p r m (l ∷ ns) rows k = refl

pub raster-rows_on : (ns ps : List ℕ) (first rows : ℕ) → 1 ≤ length ns → length ps ≡ length ns → raster ns (rows_on first ps) ≡ row_len ns * first + raster (with_rows rows ns) ps
raster-rows_on (n ∷ []) (p ∷ []) first rows some long = omega arith
raster-rows_on (n ∷ m ∷ ns) (p ∷ q ∷ ps) first rows some long =
    let r = row_len (m ∷ ns) in
    let behind = raster (with_rows rows (m ∷ ns)) (q ∷ ps) in
    ap (λ k. p + n * k) (raster-rows_on (m ∷ ns) (q ∷ ps) first rows (omega arith) (omega arith))
    ∙ omega (arith, mul-add n (r * first) behind, mul_assoc n r first)
raster-rows_on ns ps first rows some long = absurd (omega arith)

-- what exists of a block so many rows of blocks on
extents-rows_on : (ns cs : List ℕ) (c rows : ℕ) → IsSlab ns c rows → length cs ≡ length ns → is_inside (grid (with_rows rows ns)) cs ≡ true
    → extents ns (rows_on c cs) ≡ extents (with_rows rows ns) cs
extents-rows_on [] cs c rows slab long inside = absurd (omega (arith, slab.some_axis))
extents-rows_on (n ∷ []) (k ∷ []) c rows slab long inside = search (rules, and_parts, ltb-true)
extents-rows_on (n ∷ m ∷ ns) (k ∷ l ∷ cs) c rows slab long inside =
    let parts = and_parts (ltb k ((n + 3) / 4)) (is_inside (grid (with_rows rows (m ∷ ns))) (l ∷ cs)) inside in
    let smaller : IsSlab (m ∷ ns) c rows = record { some_axis = omega arith; within = slab.within; whole = slab.whole } in
    ap (λ es. min 4 (n - 4 * k) ∷ es) (extents-rows_on (m ∷ ns) (l ∷ cs) c rows smaller (omega arith) parts.1)
extents-rows_on ns cs c rows slab long inside = absurd (omega arith)

position_in-rows_on : (cs is : List ℕ) (c : ℕ) → length is ≡ length cs → position_in (rows_on c cs) is ≡ rows_on (4 * c) (position_in cs is)
position_in-rows_on [] is c long = refl
position_in-rows_on (k ∷ []) (i ∷ []) c long = let same : 4 * (c + k) + i ≡ 4 * c + (4 * k + i) = omega arith in ap (λ p. p ∷ []) same
position_in-rows_on (k ∷ l ∷ []) (i ∷ j ∷ is) c long =
    ap (λ ps. (4 * k + i) ∷ ps) (position_in-rows_on (l ∷ []) (j ∷ is) c (omega arith))
position_in-rows_on (k ∷ l ∷ m ∷ cs) (i ∷ j ∷ is) c long =
    ap (λ ps. (4 * k + i) ∷ ps) (position_in-rows_on (l ∷ m ∷ cs) (j ∷ is) c (omega arith))
position_in-rows_on cs is c long = absurd (omega arith)

length-position_in : (cs is : List ℕ) → length is ≡ length cs → length (position_in cs is) ≡ length cs
length-position_in [] is long = refl
length-position_in (k ∷ cs) [] long = absurd (omega arith)
length-position_in (k ∷ cs) (i ∷ is) long = ap suc (length-position_in cs is (omega arith))

-- ---- blocks

module _ (ns : List ℕ) (c rows : ℕ) (slab : IsSlab ns c rows) (j : ℕ) (lt : j < blocks (with_rows rows ns)) where
  abbrev cs : List ℕ
  cs = coordinates (grid (with_rows rows ns)) j

  long_grid : length (grid ns) ≡ length ns
  long_grid = length-map ns (λ n. (n + 3) / 4)

  some_axis : 1 ≤ length (grid ns)
  some_axis = omega (arith, long_grid, slab.some_axis)

  -- its block
  pub coordinates_of_block : coordinates (grid ns) (first_block ns c + j) ≡ rows_on c (coordinates (grid (with_rows rows ns)) j)
  coordinates_of_block = search (rules, grid-with_rows, rows_of-grid, coordinates-rows_on, some_axis)

  long_block : length cs ≡ length ns
  long_block = length-coordinates (grid (with_rows rows ns)) j ∙ length-map (with_rows rows ns) (λ n. (n + 3) / 4) ∙ length-with_rows rows ns

  extents_same : extents ns (rows_on c cs) ≡ extents (with_rows rows ns) cs
  extents_same = extents-rows_on ns cs c rows slab long_block (is_inside-coordinates (grid (with_rows rows ns)) j lt)

  -- of which as much exists
  pub extent_of-slab : extent_of ns (first_block ns c + j) ≡ extent_of (with_rows rows ns) j
  extent_of-slab = ap (extents ns) coordinates_of_block ∙ extents_same

  -- a value at a place
  value_same : (values : List ℤ) (p : ℕ) → p < 4 ^ length ns → value_at ns values (rows_on c cs) p ≡ value_at (with_rows rows ns) (slab_of ns values c rows) cs p
  value_same values p below =
      let d = length ns in
      let at = indices d p in
      let here = position_in cs at in
      let start = row_len ns * (4 * c) in
      let many = row_len ns * rows in
      let dims : length (with_rows rows ns) ≡ d = length-with_rows rows ns in
      let long_at : length at ≡ length cs = length-indices d p ∙ sym long_block in
      let same_index : raster ns (position_in (rows_on c cs) at) ≡ start + raster (with_rows rows ns) here = search (rules, position_in-rows_on, raster-rows_on, length-position_in, long_block) in
      let Value : ℕ → ℤ = λ k.
      cond (is_inside (extents (with_rows rows ns) cs) (indices k p)) (get_or (slab_of ns values c rows) (raster (with_rows rows ns) (position_in cs (indices k p))) (pos 0)) (pos 0) in
      ap (λ es. cond (is_inside es at) (get_or values (raster ns (position_in (rows_on c cs) at)) (pos 0)) (pos 0)) extents_same
      ∙ cond_same (is_inside (extents (with_rows rows ns) cs) at)
      (get_or values (raster ns (position_in (rows_on c cs) at)) (pos 0)) (get_or (slab_of ns values c rows) (raster (with_rows rows ns) here) (pos 0))
      (λ inside.
      let exists : is_inside (extent_of (with_rows rows ns) j) (indices (length (with_rows rows ns)) p) ≡ true = ap (λ k. is_inside (extents (with_rows rows ns) cs) (indices k p)) dims ∙ inside in
      let is_at : IsAt (with_rows rows ns) (position_in cs (indices (length (with_rows rows ns)) p)) j p = record {
        block_in_array = lt;
        place_in_block = omega (arith, below, ap (λ k. 4 ^ k) dims);
        exists = exists;
        position = refl;
      } in
      let in_slab : is_inside (with_rows rows ns) here ≡ true =
      ap (λ k. is_inside (with_rows rows ns) (position_in cs (indices k p))) (sym dims) ∙ IsAt-inside (with_rows rows ns) (position_in cs (indices (length (with_rows rows ns)) p)) j p is_at in
      let fits : raster (with_rows rows ns) here < many = omega (arith, raster-lt (with_rows rows ns) here in_slab, product-with_rows rows ns slab.some_axis) in
      ap (λ i. get_or values i (pos 0)) same_index ∙ sym (get_or-drop start values (raster (with_rows rows ns) here) (pos 0))
      ∙ sym (get_or-take many (drop start values) (raster (with_rows rows ns) here) (pos 0) fits))
      ∙ ap Value (sym dims)

  -- and which is the block of the slab
  pub block_of-slab : (values : List ℤ) → block_of ns values (first_block ns c + j) ≡ block_of (with_rows rows ns) (slab_of ns values c rows) j
  block_of-slab values = search (rules, coordinates_of_block, map-upto_same, value_same, length-with_rows)

-- what is gathered of the slab is gathered of the whole array
pub gathered_of_slab : (ns : List ℕ) (values old new : List ℤ) (c rows j : ℕ) (layout : Layout) (e : Extent) → IsSlab ns c rows → IsRasterBlock (with_rows rows ns) j layout e
    → IsGathered layout e (slab_of ns values c rows) old new → existing_values (extent_of ns (first_block ns c + j)) new ≡ block_of ns values (first_block ns c + j)
gathered_of_slab ns values old new c rows j layout e slab h g =
    ap (λ es. existing_values es new) (extent_of-slab ns c rows slab j h.in_array)
    ∙ gathered_block (with_rows rows ns) j layout e h (slab_of ns values c rows) old new g
    ∙ sym (block_of-slab ns c rows slab j h.in_array values)

-- ---- the layout of the whole array serves

pub rows_on-none : (ps : List ℕ) → rows_on 0 ps ≡ ps
rows_on-none [] = refl
rows_on-none (p ∷ []) = let same : 0 + p ≡ p = omega arith in ap (λ k. k ∷ []) same
rows_on-none (p ∷ q ∷ ps) = ap (λ qs. p ∷ qs) (rows_on-none (q ∷ ps))

-- a position in the slab is one in an array of more rows
inside_more : (ns ps : List ℕ) (rows : ℕ) → rows ≤ rows_of ns → is_inside (with_rows rows ns) ps ≡ true → is_inside ns ps ≡ true
inside_more [] ps rows few inside = refl
inside_more (n ∷ []) (p ∷ ps) rows few inside = search (rules, and_parts, ltb-true, and_from, lt-ltb)
inside_more (n ∷ m ∷ ns) (p ∷ ps) rows few inside =
    let parts = and_parts (ltb p n) (is_inside (with_rows rows (m ∷ ns)) ps) inside in
    and_from (ltb p n) (is_inside (m ∷ ns) ps) parts.0 (inside_more (m ∷ ns) ps rows few parts.1)
inside_more ns ps rows few inside = absurd (false≢true inside)

pub layout_of_slab : (ns : List ℕ) (rows : ℕ) (layout : Layout) → 1 ≤ length ns → length ns ≤ 4 → rows ≤ rows_of ns → IsRaster ns layout → IsRaster (with_rows rows ns) layout
layout_of_slab ns rows layout some four few whole p at =
    let dims = length-with_rows rows ns in
    let ps = used_axes (length ns) p in
    let inside = rw dims at at.inside in
    let position : IsPosition ns p = record { inside = inside_more ns ps rows few inside; unused = rw dims at at.unused } in
    let none : row_len ns * 0 + raster (with_rows rows ns) ps ≡ raster (with_rows rows ns) ps = omega arith in
    whole p position ∙ ap (raster ns) (sym (rows_on-none ps)) ∙ raster-rows_on ns ps 0 rows some (length-used_axes (length ns) p four) ∙ none
    ∙ ap (λ k. raster (with_rows rows ns) (used_axes k p)) (sym dims)

-- ---- a slab of a shape has a shape

all_with_rows : (P : ℕ → Type 0) (rows : ℕ) (ns : List ℕ) → P rows → AllByRecursion P ns → AllByRecursion P (with_rows rows ns)
all_with_rows P rows [] here all = tt
all_with_rows P rows (n ∷ []) here all = (here, tt)
all_with_rows P rows (n ∷ m ∷ ns) here all = (all.0, all_with_rows P rows (m ∷ ns) here all.1)

pub all_rows : (P : ℕ → Type 0) (ns : List ℕ) → 1 ≤ length ns → AllByRecursion P ns → P (rows_of ns)
all_rows P [] some all = absurd (omega arith)
all_rows P (n ∷ []) some all = all.0
all_rows P (n ∷ m ∷ ns) some all = all_rows P (m ∷ ns) (omega arith) all.1

pub IsShape-with_rows : (rows : ℕ) (ns : List ℕ) → IsShape ns → 1 ≤ rows → rows ≤ rows_of ns → IsShape (with_rows rows ns)
IsShape-with_rows rows ns shape some few =
    let dims = length-with_rows rows ns in
    let most = all_rows (λ n. n ≤ 2 ^ (48 / length ns)) ns shape.some_dimension shape.fields in
    let few_values = mul-le-mul_left (row_len ns) few in
    let fields = all_with_rows (λ n. n ≤ 2 ^ (48 / length ns)) rows ns (omega (arith, most)) shape.fields in
    let all : AllByRecursion (λ n. n ≤ 2 ^ (48 / length (with_rows rows ns))) (with_rows rows ns) = rw dims fields in
    search (rules, all_with_rows, product-with_rows, product-rows)

-- a slab is an array, and what is gathered of it is gathered of the whole one
pub ruleset slabs_are = (product-with_rows, with_all_rows, extent_of-slab)

pub ruleset slabs_gathered = (slabs_are, layout_of_slab, coordinates_of_block, gathered_of_slab)
