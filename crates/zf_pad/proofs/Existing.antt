-- The places that exist: told by four axes, and by the used ones.
use Rattle.std.proofs.Common.{rules, ◌≡◌, ℕ, zero, suc, ◌-◌, ◌/◌, ◌%◌, ◌^◌, ◌<◌, ◌≤◌, true, ◌&&◌, ltb, ltb-true, lt-ltb, List, [], ◌∷◌, ◌++◌, length, replicate, refl, ap, sym, subst, ◌∙◌, arith, pow-suc}
use Rattle.std.proofs.lemmas.Bool.{and_parts, and_from}
use Rattle.zf_spec.specs.Grid.{is_inside, fours, indices}
use Rattle.zf_base.{specs.declared.position.Extent.{Extent}, specs.Positions.{axes, used_axes, IsExtent}}
use Rattle.zf_pad.specs.declared.layout.Layout.{Layout}
use Rattle.zf_pad.specs.Layouts.{HasPlace, place_indices, moved, index_of, index_at}
use Rattle.zf_pad.proofs.Sizes.{used_length, size_axes, sizes_not_zero}

-- sizes along axes that are not used
abbrev ones : ℕ → List ℕ
ones k = replicate k 1

-- more axes of size 1 change nothing: of a place of the block the indices along them are 0
inside_ones : (k p : ℕ) → p < 1 → is_inside (ones k) (indices (length (ones k)) p) ≡ true
inside_ones zero p h = refl
inside_ones (suc k) p h = and_from (ltb (p % 4) 1) (is_inside (ones k) (indices (length (ones k)) (p / 4))) (lt-ltb (p % 4) 1 (omega arith)) (inside_ones k (p / 4) (omega arith))

inside-append_ones : (es : List ℕ) (k p : ℕ) → p < 4 ^ length es → is_inside (es ++ ones k) (indices (length (es ++ ones k)) p) ≡ is_inside es (indices (length es) p)
inside-append_ones [] k p h = inside_ones k p (omega arith)
inside-append_ones (e ∷ es) k p h =
    let power = pow-suc 4 (length es) in
    ap (λ t. ltb (p % 4) e && t) (inside-append_ones es k (p / 4) (omega arith))

-- and a place of more axes that is inside is a place of the block
ones_below : (k p : ℕ) → p < 4 ^ length (ones k) → is_inside (ones k) (indices (length (ones k)) p) ≡ true → p < 1
ones_below zero p h i = omega arith
ones_below (suc k) p h i =
    let parts = and_parts (ltb (p % 4) 1) (is_inside (ones k) (indices (length (ones k)) (p / 4))) i in
    let power = pow-suc 4 (length (ones k)) in
    omega (arith, ltb-true (p % 4) 1 parts.0, ones_below k (p / 4) (omega arith) parts.1)

inside_below : (es : List ℕ) (k p : ℕ) → p < 4 ^ length (es ++ ones k) → is_inside (es ++ ones k) (indices (length (es ++ ones k)) p) ≡ true → p < 4 ^ length es
inside_below [] k p h i = omega (arith, ones_below k p h i)
inside_below (e ∷ es) k p h i =
    let parts = and_parts (ltb (p % 4) e) (is_inside (es ++ ones k) (indices (length (es ++ ones k)) (p / 4))) i in
    let power = pow-suc 4 (length es) in
    let powers = pow-suc 4 (length (es ++ ones k)) in
    omega (arith, inside_below es k (p / 4) (omega arith) parts.1)

-- all places of a box of fours are inside
pub inside_fours : (d p : ℕ) → is_inside (fours d) (indices d p) ≡ true
inside_fours zero p = refl
inside_fours (suc d) p = and_from (ltb (p % 4) 4) (is_inside (fours d) (indices d (p / 4))) (lt-ltb (p % 4) 4 (omega arith)) (inside_fours d (p / 4))

module _ (d : ℕ) (e : Extent) (dims : d ≤ 4) (h : IsExtent d e) where
  -- a place that exists is one of the block's
  pub place_below : (p : ℕ) → HasPlace e p → p < 4 ^ d
  unfolding place_indices
  place_below p at =
      let es = used_axes d e.size in
      let four = size_axes d e dims h in
      let small = subst (λ zs. p < 4 ^ length zs) four at.in_block in
      let inside = subst (λ zs. is_inside zs (indices (length zs) p) ≡ true) four at.inside in
      subst (λ k. p < 4 ^ k) (used_length d e dims h) (inside_below es (4 - d) p small inside)

  -- it exists by four axes where it does by the used ones
  pub has_place : (p : ℕ) → p < 4 ^ d → is_inside (axes e.size) (axes (place_indices p)) ≡ is_inside (used_axes d e.size) (indices d p)
  unfolding place_indices
  has_place p lt =
      let es = used_axes d e.size in
      let same = used_length d e dims h in
      ap (λ zs. is_inside zs (indices (length zs) p)) (size_axes d e dims h) ∙ inside-append_ones es (4 - d) p (subst (λ k. p < 4 ^ k) (sym same) lt) ∙ ap (λ k. is_inside es (indices k p)) same

  -- and of a whole block each does
  pub place_of_whole : (p : ℕ) → used_axes d e.size ≡ fours d → p < 4 ^ d → is_inside (axes e.size) (axes (place_indices p)) ≡ true
  place_of_whole p all lt = has_place p lt ∙ ap (λ es. is_inside es (indices d p)) all ∙ inside_fours d p

  -- the first place exists
  pub first_place : HasPlace e 0
  unfolding place_indices
  first_place = search (rules, sizes_not_zero, and_from, lt-ltb)

-- at the first place is the extent's first position
pub first_index : (layout : Layout) (e : Extent) → index_at layout e 0 ≡ index_of layout e.origin
unfolding place_indices moved index_of
first_index layout e = omega arith
