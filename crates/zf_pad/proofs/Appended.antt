-- A block that is put behind others: of a whole one all values, else those in the box of its extent.
use Rattle.std.proofs.Common.{rules, ◌≡◌, refl, sym, ap, subst, ◌∙◌, ℕ, zero, suc, ◌+◌, ◌-◌, ◌*◌, ◌/◌, ◌%◌, ◌^◌, ◌<◌, ◌≤◌, min, nat_lt, true, ℤ, pos, List, [], ◌∷◌, ◌++◌, length, get_or, take, drop, replicate, ext_get_or, length-drop, pow-suc, arith}
use Rattle.std.proofs.lemmas.List.{get_or-take, get_or-drop, length-take-le, take-append-drop}
use Rattle.std.{proofs.Math.Nat.{pow-le-pow_right}, proofs.lemmas.Bool.{and_parts, ltb-true, false≢true}}
use Rattle.zf_spec.specs.Grid.{product, grid, blocks, coordinates, raster, is_inside, fours, indices, extents, extent_of}
use Rattle.zf_spec.proofs.Raster.{raster-coordinates, coordinates-raster, product-fours, length-fours}
use Rattle.zf_base.specs.declared.position.Extent.{Extent}
use Rattle.zf_base.specs.Positions.{axes, used_axes, with_unused, IsExtent}
use Rattle.zf_base.proofs.Boxes.{raster-lt, product-append_ones, is_inside-coordinates}
use Rattle.zf_pad.{specs.declared.layout.Layout.{Layout}, specs.Copies.{IsScattered}}
use Rattle.zf_pad.specs.Layouts.{HasPlace, place_indices, moved, index_of, index_at, LiesWithin, IsOneToOne}
use Rattle.zf_pad.{specs.Stored.{HasWholeBlocks, AppendsBlock}, proofs.Sizes.{used_length, size_axes}}
use Rattle.zf_pad.proofs.Existing.{has_place}

-- ---- a whole block

place_of_fours : (d p : ℕ) → p < 4 ^ d → raster (fours d) (indices (length (fours d)) p) ≡ p
place_of_fours d p lt =
    ap (λ k. raster (fours d) (indices k p)) (length-fours d) ∙ raster-coordinates (fours d) p (omega (arith, lt, product-fours d))

pub whole_appended : (d : ℕ) (es : List ℕ) (block old new : List ℤ) → es ≡ fours d → length block ≡ 4 ^ d → new ≡ old ++ block → AppendsBlock es block old new
whole_appended d es block old new whole long is = search (rules, product-fours, place_of_fours, length-fours)

-- where no size cuts a block all are whole
all_whole : (ns cs : List ℕ) → HasWholeBlocks ns → is_inside (grid ns) cs ≡ true → extents ns cs ≡ fours (length ns)
all_whole [] cs whole inside = refl
all_whole (n ∷ ns) [] whole inside = absurd (false≢true inside)
all_whole (n ∷ ns) (c ∷ cs) whole inside =
    let parts = and_parts (nat_lt c ((n + 3) / 4)) (is_inside (grid ns) cs) inside in
    let below = ltb-true c ((n + 3) / 4) parts.0 in
    let four : min 4 (n - 4 * c) ≡ 4 = omega (arith, below, whole.0) in
    ap (λ e. e ∷ extents ns cs) four ∙ ap (λ es. 4 ∷ es) (all_whole ns cs whole.1 parts.1)

pub whole_block : (ns : List ℕ) (b : ℕ) (block old new : List ℤ) → HasWholeBlocks ns → b < blocks ns → length block ≡ 4 ^ length ns → new ≡ old ++ block → AppendsBlock (extent_of ns b) block old new
whole_block ns b block old new whole lt long is =
    whole_appended (length ns) (extent_of ns b) block old new (all_whole ns (coordinates (grid ns) b) whole (is_inside-coordinates (grid ns) b lt)) long is

pub whole_size : (ns : List ℕ) (b : ℕ) → HasWholeBlocks ns → b < blocks ns → product (extent_of ns b) ≡ 4 ^ length ns
whole_size ns b whole lt = ap product (all_whole ns (coordinates (grid ns) b) whole (is_inside-coordinates (grid ns) b lt)) ∙ product-fours (length ns)

-- and where each can be divided by four
pub all_divide : (ns : List ℕ) → ((i : ℕ) → i < length ns → get_or ns i 1 % 4 ≡ 0) → HasWholeBlocks ns
all_divide [] h = tt
all_divide (n ∷ ns) h = (h 0 (omega arith), all_divide ns (λ i lt. h (suc i) (omega arith)))

pub divides_at : (ns : List ℕ) (i : ℕ) → i < length ns → HasWholeBlocks ns → get_or ns i 1 % 4 ≡ 0
divides_at [] i lt h = absurd (omega arith)
divides_at (n ∷ ns) zero lt h = h.0
divides_at (n ∷ ns) (suc i) lt h = divides_at ns i (omega arith) h.1

-- ---- the box of an extent

-- the number of a place in it, by four axes and by the used ones
abbrev ones : ℕ → List ℕ
ones k = replicate k 1

raster_ones : (k p : ℕ) → p < 1 → raster (ones k) (indices (length (ones k)) p) ≡ 0
raster_ones zero p lt = refl
raster_ones (suc k) p lt = omega (arith, raster_ones k (p / 4) (omega arith))

raster-append_ones : (es : List ℕ) (k p : ℕ) → p < 4 ^ length es → raster (es ++ ones k) (indices (length (es ++ ones k)) p) ≡ raster es (indices (length es) p)
raster-append_ones [] k p lt = raster_ones k p (omega arith)
raster-append_ones (e ∷ es) k p lt =
    let power = pow-suc 4 (length es) in
    ap (λ r. p % 4 + e * r) (raster-append_ones es k (p / 4) (omega arith))

module _ (d : ℕ) (e : Extent) (dims : d ≤ 4) (h : IsExtent d e) where
  number_of_place : (p : ℕ) → p < 4 ^ d → raster (axes e.size) (axes (place_indices p)) ≡ raster (used_axes d e.size) (indices d p)
  unfolding place_indices
  number_of_place p lt =
      let es = used_axes d e.size in
      let same = used_length d e dims h in
      ap (λ zs. raster zs (indices (length zs) p)) (size_axes d e dims h)
      ∙ raster-append_ones es (4 - d) p (subst (λ k. p < 4 ^ k) (sym same) lt) ∙ ap (λ k. raster es (indices k p)) same

  pub count_of_places : product (axes e.size) ≡ product (used_axes d e.size)
  count_of_places = ap product (size_axes d e dims h) ∙ product-append_ones (used_axes d e.size) (4 - d)

-- a layout of the box behind so many values
pub record IsBox (first : ℕ) (layout : Layout) (e : Extent) : Type 0 where
  pub start : layout.start ≡ first
  pub x : layout.step.x ≡ 1
  pub y : layout.step.y ≡ e.size.x
  pub z : layout.step.z ≡ e.size.x * e.size.y
  pub w : layout.step.w ≡ e.size.x * e.size.y * e.size.z
  pub origin : e.origin ≡ with_unused 0 []

-- a place is told by its indices
number_four : (p : ℕ) → p < 4 ^ 4 → raster (fours 4) (axes (place_indices p)) ≡ p
unfolding place_indices
number_four p lt = raster-coordinates (fours 4) p (omega arith)

module _ (first : ℕ) (layout : Layout) (e : Extent) (h : IsBox first layout e) where
  -- a place is at its number in the box
  index_in_box : (p : ℕ) → index_at layout e p ≡ first + raster (axes e.size) (axes (place_indices p))
  unfolding index_of moved
  index_in_box p = rw (h.start, h.x, h.y, h.z, h.w, h.origin) (omega arith)

  pub box_within : (n : ℕ) → first + product (axes e.size) ≤ n → LiesWithin layout e n
  box_within n within = λ p at. omega (arith, index_in_box p, raster-lt (axes e.size) (axes (place_indices p)) at.inside)

  pub box_one_to_one : IsOneToOne layout e
  box_one_to_one = λ p q at of same.
      let sizes = axes e.size in
      let numbers : raster sizes (axes (place_indices p)) ≡ raster sizes (axes (place_indices q)) = omega (arith, same, index_in_box p, index_in_box q) in
      let one : axes (place_indices p) ≡ axes (place_indices q) =
      sym (coordinates-raster sizes (axes (place_indices p)) refl at.inside) ∙ ap (coordinates sizes) numbers ∙ coordinates-raster sizes (axes (place_indices q)) refl of.inside in
      sym (number_four p at.in_block) ∙ ap (raster (fours 4)) one ∙ number_four q of.in_block

  -- what is scattered into it is put behind what was there
  module _ (d : ℕ) (dims : d ≤ 4) (extent : IsExtent d e) (block old grown new : List ℤ) (long : length old ≡ first) (more : length grown ≡ first + product (axes e.size))
      (as_long : length new ≡ length grown) (front : take first grown ≡ old) (put : IsScattered layout e block grown new) where
    stays : take first new ≡ old
    stays =
        ext_get_or (pos 0) (take first new) old (length-take-le first new (omega (arith, as_long, more)) ∙ sym long)
        (search (rules, length-take-le, get_or-take, index_in_box))

    pub part_appended : AppendsBlock (used_axes d e.size) block old new
    part_appended =
        let es = used_axes d e.size in
        let same = used_length d e dims extent in
        record {
          more = drop first new;
          behind = sym (take-append-drop first new) ∙ ap (λ (l : List ℤ). l ++ drop first new) stays;
          long = length-drop first new ∙ omega (arith, as_long, more, count_of_places d e dims extent);
          values = λ p lt inside.
              let small : p < 4 ^ d = subst (λ k. p < 4 ^ k) same lt in
              let exists : is_inside es (indices d p) ≡ true = ap (λ k. is_inside es (indices k p)) (sym same) ∙ inside in
              let at : HasPlace e p = record { in_block = omega (arith, small, pow-le-pow_right {n = 4} (omega arith) dims); inside = has_place d e dims extent p small ∙ exists } in
              get_or-drop first new (raster es (indices (length es) p)) (pos 0)
              ∙ ap (λ k. get_or new (first + raster es (indices k p)) (pos 0)) same
              ∙ ap (λ k. get_or new (first + k) (pos 0)) (sym (number_of_place d e dims extent p small))
              ∙ ap (λ i. get_or new i (pos 0)) (sym (index_in_box p))
              ∙ put.existing p at;
        }
