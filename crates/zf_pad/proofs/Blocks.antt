-- The blocks of an array of raw values: what a gather takes, and what a scatter leaves.
use Rattle.std.proofs.Common.{rules, ◌≡◌, ◌≢◌, ℕ, ◌+◌, ◌*◌, ◌/◌, ◌^◌, ◌<◌, ◌≤◌, Bool, true, false, cond, ℤ, pos, List, [], ◌∷◌, length, get_or, map, All, refl, ap, sym, subst, ◌∙◌, arith, ext_get_or}
use Rattle.std.{proofs.lemmas.List.{length-map}, proofs.Math.Nat.{pow-le-pow_right}}
use Rattle.zf_spec.specs.Grid.{IsShape, product, grid, blocks, places, coordinates, raster, is_inside, indices, extents, extent_of, position_in, value_at, block_of}
use Rattle.zf_spec.{specs.Padding.{pad}, specs.Codes.{existing_values}}
use Rattle.zf_spec.proofs.Counting.{map-upto_same, get_or-map-upto}
use Rattle.zf_spec.proofs.Padding.{IsExtent as IsSize, existing_values-existing_values, existing_values-pad, pad-existing_values, pad_same}
use Rattle.zf_spec.proofs.Raster.{raster-coordinates, coordinates-raster, length-coordinates}
use Rattle.zf_base.{specs.declared.position.Extent.{Extent}, specs.Places.{IsAt, block_number, place_of}}
use Rattle.zf_base.specs.Positions.{axes, used_axes, with_unused, IsExtent}
use Rattle.zf_base.proofs.Boxes.{raster-lt, is_inside-coordinates}
use Rattle.zf_base.proofs.Extents.{IsExtent-of_block, IsPosition-with_unused, used_size, used_axes-with_unused, same_from_axes, length-extent_of}
use Rattle.zf_base.proofs.Places.{IsAt-position, IsAt-inside, IsAt-length, IsAt-block, IsAt-place}
use Rattle.zf_pad.{specs.declared.layout.Layout.{Layout}, specs.Rasters.{IsRasterBlock}}
use Rattle.zf_pad.specs.Layouts.{HasPlace, place_indices, moved, index_of, index_at, LiesWithin, IsOneToOne}
use Rattle.zf_pad.{specs.Copies.{IsGathered, IsScattered}, proofs.Sizes.{used_sizes}}
use Rattle.zf_pad.proofs.Existing.{place_below, has_place}

-- ---- the coordinates of a block, and its positions

length-block : (ns : List ℕ) (b : ℕ) → length (coordinates (grid ns) b) ≡ length ns
length-block ns b = length-coordinates (grid ns) b ∙ length-map ns (λ n. (n + 3) / 4)

-- lists of four equal elements are equal
four_same : (a b c d a' b' c' d' : ℕ) → a ≡ a' → b ≡ b' → c ≡ c' → d ≡ d' → a ∷ b ∷ c ∷ d ∷ [] ≡ a' ∷ b' ∷ c' ∷ d' ∷ []
four_same a b c d a' b' c' d' e f g h = cc

-- the first position of a block, moved by the indices of a place, is the position there
moved_position : (cs : List ℕ) (p : ℕ) → length cs ≤ 4 → p < 4 ^ length cs → moved (with_unused 0 (map (λ c. 4 * c) cs)) (place_indices p) ≡ with_unused 0 (position_in cs (indices (length cs) p))
unfolding moved place_indices
moved_position [] p four lt =
    same_from_axes _ _ (four_same _ _ _ _ _ _ _ _ (omega arith) (omega arith) (omega arith) (omega arith))
moved_position (a ∷ []) p four lt =
    same_from_axes _ _ (four_same _ _ _ _ _ _ _ _ refl (omega arith) (omega arith) (omega arith))
moved_position (a ∷ b ∷ []) p four lt =
    same_from_axes _ _ (four_same _ _ _ _ _ _ _ _ refl refl (omega arith) (omega arith))
moved_position (a ∷ b ∷ c ∷ []) p four lt =
    same_from_axes _ _ (four_same _ _ _ _ _ _ _ _ refl refl refl (omega arith))
moved_position (a ∷ b ∷ c ∷ d ∷ []) p four lt = refl
moved_position (a ∷ b ∷ c ∷ d ∷ e ∷ cs) p four lt = absurd (omega arith)

-- positions with one raster number are one position
same_position : (ns ps qs : List ℕ) (a b p q : ℕ) → IsAt ns ps a p → IsAt ns qs b q → raster ns ps ≡ raster ns qs → ps ≡ qs
same_position ns ps qs a b p q at of same =
    sym (coordinates-raster ns ps (IsAt-length ns ps a p at) (IsAt-inside ns ps a p at)) ∙ ap (coordinates ns) same ∙ coordinates-raster ns qs (IsAt-length ns qs b q of) (IsAt-inside ns qs b q of)

-- ---- values by place

-- a choice between a value and 0 needs the value only where it is taken
pub cond_same : (t : Bool) (u v : ℤ) → (t ≡ true → u ≡ v) → cond t u (pos 0) ≡ cond t v (pos 0)
cond_same true u v h = h refl
cond_same false u v h = refl

-- the values that exist, by the number of dimensions
pub existing_by : (es : List ℕ) (d : ℕ) (block : List ℤ) → length es ≡ d → existing_values es block ≡ map (λ p. cond (is_inside es (indices d p)) (get_or block p (pos 0)) (pos 0)) (places d)
unfolding existing_values
existing_by es d block e = subst (λ k. existing_values es block ≡ map (λ p. cond (is_inside es (indices k p)) (get_or block p (pos 0)) (pos 0)) (places k)) e refl

-- ---- the places of a block, in the layout of raw values

module _ (ns : List ℕ) (b : ℕ) (layout : Layout) (e : Extent) (h : IsRasterBlock ns b layout e) where
  -- the position at a place of the block
  position_of : ℕ → List ℕ
  position_of p = position_in (coordinates (grid ns) b) (indices (length ns) p)

  is_extent : IsExtent (length ns) e
  is_extent = IsExtent-of_block ns b e.size h.shape h.size e.origin h.in_array

  -- a place exists by four axes where it does by the block's extent
  inside_by : (p : ℕ) → p < 4 ^ length ns → is_inside (axes e.size) (axes (place_indices p)) ≡ is_inside (extent_of ns b) (indices (length ns) p)
  inside_by p lt = has_place (length ns) e h.shape.four_at_most is_extent p lt ∙ ap (λ es. is_inside es (indices (length ns) p)) (used_size ns b e.size h.shape h.size)

  -- a place that exists is that of a position of the block
  place_is_at : (p : ℕ) → HasPlace e p → IsAt ns (position_of p) b p
  unfolding position_of
  place_is_at p at = search (rules, place_below, is_extent, inside_by)

  -- its index is the raster number of that position
  index_is : (p : ℕ) → HasPlace e p → index_at layout e p ≡ raster ns (position_of p)
  unfolding position_of
  index_is p at =
      let ps = position_in (coordinates (grid ns) b) (indices (length ns) p) in
      let here = place_is_at p at in
      let long = length-block ns b in
      let lt = here.place_in_block in
      let here_is = ap (λ o. moved o (place_indices p)) h.origin ∙ moved_position (coordinates (grid ns) b) p (omega (arith, long, h.shape.four_at_most)) (subst (λ k. p < 4 ^ k) (sym long) lt) ∙ ap (λ k. with_unused 0 (position_in (coordinates (grid ns) b) (indices k p))) long in
      let same = IsAt-length ns ps b p here in
      let known = ap (λ k. used_axes k (with_unused 0 ps)) (sym same) ∙ used_axes-with_unused 0 ps (omega (arith, same, h.shape.four_at_most)) in
      let is_position = IsPosition-with_unused ns ps h.shape.four_at_most same (IsAt-inside ns ps b p here) in
      ap (index_of layout) here_is ∙ h.raster_layout (with_unused 0 ps) is_position ∙ ap (raster ns) known

  pub index_by_raster : (p : ℕ) → HasPlace e p → index_at layout e p ≡ raster ns (position_in (coordinates (grid ns) b) (indices (length ns) p))
  unfolding position_of
  index_by_raster = index_is

  -- the places lie within the raw values
  pub lies_within : (n : ℕ) → product ns ≤ n → LiesWithin layout e n
  lies_within n long = λ p at.
      let ps = position_of p in
      omega (arith, index_is p at, raster-lt ns ps (IsAt-inside ns ps b p (place_is_at p at)))

  -- at different indices
  pub one_to_one : IsOneToOne layout e
  one_to_one = λ p q at of same.
      let here = place_is_at p at in
      let there = place_is_at q of in
      let one = same_position ns (position_of p) (position_of q) b b p q here there (sym (index_is p at) ∙ same ∙ index_is q of) in
      IsAt-place ns (position_of p) b p here ∙ ap place_of one ∙ sym (IsAt-place ns (position_of q) b q there)

  -- a block that has the values at the places that exist is the block of the array
  pub block_is : (values block : List ℤ) → ((p : ℕ) → HasPlace e p → get_or block p (pos 0) ≡ get_or values (index_at layout e p) (pos 0)) → existing_values (extent_of ns b) block ≡ block_of ns values b
  unfolding position_of
  block_is values block same =
      let d = length ns in
      let es = extent_of ns b in
      existing_by es d block (length-extent_of ns b) ∙ map-upto_same
      (λ p. cond (is_inside es (indices d p)) (get_or block p (pos 0)) (pos 0)) (value_at ns values (coordinates (grid ns) b)) (4 ^ d)
      (λ p lt. cond_same
      (is_inside es (indices d p)) (get_or block p (pos 0)) (get_or values (raster ns (position_in (coordinates (grid ns) b) (indices d p))) (pos 0))
      (λ inside.
      let at = at_place p lt inside in
      same p at ∙ ap (λ i. get_or values i (pos 0)) (index_is p at)))
    where
      at_place : (p : ℕ) → p < 4 ^ length ns → is_inside (extent_of ns b) (indices (length ns) p) ≡ true → HasPlace e p
      at_place p lt inside = record { in_block = omega (arith, lt, pow-le-pow_right {n = 4} (omega arith) h.shape.four_at_most); inside = inside_by p lt ∙ inside }

  -- what is gathered is the block of the array
  pub gathered_block : (values old new : List ℤ) → IsGathered layout e values old new → existing_values (extent_of ns b) new ≡ block_of ns values b
  gathered_block values old new g = block_is values new g.existing

  -- and padded it is the padded block
  pub gathered_padded : (values old new : List ℤ) → IsGathered layout e values old new → pad (extent_of ns b) new ≡ pad (extent_of ns b) (block_of ns values b)
  gathered_padded values old new g = search (rules, used_size, used_sizes, is_extent, pad_same, existing_values-existing_values, gathered_block)

  -- what is scattered becomes the block of the array
  pub scattered_block : (block old new : List ℤ) → IsScattered layout e block old new → block_of ns new b ≡ existing_values (extent_of ns b) block
  scattered_block block old new s = sym (block_is new block (λ p at. sym (s.existing p at)))

  -- and every other block stays
  pub other_block : (block old new : List ℤ) (a : ℕ) → IsScattered layout e block old new → a < blocks ns → a ≢ b → block_of ns new a ≡ block_of ns old a
  other_block block old new a s lt other =
      let d = length ns in
      let cs = coordinates (grid ns) a in
      map-upto_same
      (value_at ns new cs) (value_at ns old cs) (4 ^ d)
      (λ p small. cond_same
      (is_inside (extents ns cs) (indices d p)) (get_or new (raster ns (position_in cs (indices d p))) (pos 0)) (get_or old (raster ns (position_in cs (indices d p))) (pos 0))
      (λ inside.
      let ps = position_in cs (indices d p) in
      let here : IsAt ns ps a p = record { block_in_array = lt; place_in_block = small; exists = inside; position = refl } in
      s.others (raster ns ps) (λ q at same.
      let there = place_is_at q at in
      let one = same_position ns (position_of q) ps b a q p there here (sym (index_is q at) ∙ same) in
      other (IsAt-block ns ps a p here ∙ ap (block_number ns) (sym one) ∙ sym (IsAt-block ns (position_of q) b q there)))))

-- ---- an array is what its blocks are

-- a value of an array by its block and place
pub value_of_block : (ns : List ℕ) (values : List ℤ) (ps : List ℕ) (b p : ℕ) → IsAt ns ps b p → get_or (block_of ns values b) p (pos 0) ≡ get_or values (raster ns ps) (pos 0)
value_of_block ns values ps b p at = search (rules, get_or-map-upto)

-- so values whose blocks agree agree
pub values_from_blocks : (ns : List ℕ) (u v : List ℤ) → length u ≡ product ns → length v ≡ product ns → ((b : ℕ) → b < blocks ns → block_of ns u b ≡ block_of ns v b) → u ≡ v
values_from_blocks ns u v long as_long same =
    ext_get_or (pos 0) u v (long ∙ sym as_long) (λ i lt.
    let small : i < product ns = omega (arith, lt, long) in
    let ps = coordinates ns i in
    let b = block_number ns ps in
    let p = place_of ps in
    let at = IsAt-position ns ps (length-coordinates ns i) (is_inside-coordinates ns i small) in
    let number = raster-coordinates ns i small in
    ap (λ k. get_or u k (pos 0)) (sym number) ∙ sym (value_of_block ns u ps b p at) ∙ ap (λ block. get_or block p (pos 0)) (same b at.block_in_array) ∙ value_of_block ns v ps b p at ∙ ap (λ k. get_or v k (pos 0)) number)

-- ---- the extents of a block are 1 to 4

pub all_extents : (ns : List ℕ) (b : ℕ) → IsShape ns → b < blocks ns → All IsSize (extent_of ns b)
all_extents ns b shape lt =
    let size = with_unused 1 (extent_of ns b) in
    let origin = with_unused 0 [] in
    let is_extent = IsExtent-of_block ns b size shape refl origin lt in
    subst (λ s. All IsSize s) (used_size ns b size shape refl) (used_sizes (length ns) (record { origin = origin; size = size }) shape.four_at_most is_extent)

-- so a block that has the values that exist is padded alike
pub padded_same : (ns : List ℕ) (b : ℕ) (gathered block : List ℤ) → IsShape ns → b < blocks ns → existing_values (extent_of ns b) gathered ≡ block → pad (extent_of ns b) gathered ≡ pad (extent_of ns b) block
padded_same ns b gathered block shape lt e = search (rules, pad-existing_values, all_extents)

-- and so what is gathered of a block, and padded, has the block's values and is the padded block
pub padded_block : (ns : List ℕ) (b : ℕ) (gathered padded block : List ℤ) → IsShape ns → b < blocks ns → existing_values (extent_of ns b) gathered ≡ block → padded ≡ pad (extent_of ns b) gathered → (existing_values (extent_of ns b) padded ≡ block) × (padded ≡ pad (extent_of ns b) block)
padded_block ns b gathered padded block shape lt e is =
    (cc (existing_values-pad (extent_of ns b) gathered (all_extents ns b shape lt)), is ∙ padded_same ns b gathered block shape lt e)
