-- Whole blocks of arrays of one dimension, by their number: four values beside one another.
use Rattle.std.proofs.Common.{◌≡◌, ℕ, ◌*◌, ◌+◌, ◌<◌, ◌≤◌, ℤ, List, [], ◌∷◌, get_or, length, take, drop, refl, ap, sym, subst, ◌∙◌, arith}
use Rattle.std.proofs.lemmas.List.{length-take-le, length-drop}
use Rattle.zf_spec.{specs.Grid.{fours, product, blocks, extent_of, block_of, IsShape}, specs.Codes.{existing_values}}
use Rattle.zf_base.{specs.Positions.{used_axes, with_unused, IsExtent}, proofs.Extents.{used_size, IsExtent-of_block}}
use Rattle.zf_base.specs.declared.{position.Pos.{Pos}, position.Extent.{Extent}}
use Rattle.zf_pad.{specs.declared.layout.Layout.{Layout}, specs.Rasters.{IsRasterBlock}}
use Rattle.zf_pad.{proofs.Rasters.{raster_layout}, proofs.FirstRow.{first_origin, first_size}, proofs.Lines.{line_taken, whole_within}}

-- the layout of raw values
abbrev raw : List ℕ → Layout
raw ns = record { start = 0; step = record { x = 1; y = get_or ns 0 1; z = get_or ns 0 1 * get_or ns 1 1; w = get_or ns 0 1 * get_or ns 1 1 * get_or ns 2 1 } }

-- of a whole row all values exist
existing_row : (row : List ℤ) → length row ≡ 4 → existing_values (fours 1) row ≡ row
unfolding existing_values
existing_row (x ∷ y ∷ z ∷ w ∷ []) long = refl
existing_row row long = absurd (omega arith)

module _ (ns : List ℕ) (b : ℕ) (shape : IsShape ns) (one : length ns ≡ 1) (lt : b < blocks ns) (whole : 4 * b + 4 ≤ get_or ns 0 1) where
  -- the part of the array that it is
  abbrev part : Extent
  part = record { origin = record { x = 4 * b; y = 0; z = 0; w = 0 }; size = with_unused 1 (extent_of ns b) }

  four : part.size.x ≡ 4
  four = ap (λ (p : Pos). p.x) (first_size ns b shape (omega (arith, whole))) ∙ omega (arith, whole)

  pub row_whole : extent_of ns b ≡ fours (length ns)
  row_whole = sym (used_size ns b part.size shape refl) ∙ ap (λ d. used_axes d part.size) one ∙ ap (λ n. n ∷ []) four ∙ ap fours (sym one)

  here : IsRasterBlock ns b (raw ns) part
  here = record { shape = shape; in_array = lt; raster_layout = raster_layout ns (raw ns) shape refl refl refl refl refl; origin = sym (first_origin ns b shape (omega (arith, whole))); size = refl }

  -- its values
  pub row_block : (values : List ℤ) → length values ≡ product ns → block_of ns values b ≡ take 4 (drop (4 * b) values)
  row_block values all =
      let row = take 4 (drop (4 * b) values) in
      let extent : IsExtent 1 part = subst (λ d. IsExtent d part) one (IsExtent-of_block ns b part.size shape refl part.origin lt) in
      let long : length row ≡ 4 = length-take-le 4 (drop (4 * b) values) (omega (arith, length-drop (4 * b) values, all, whole_within ns b (raw ns) part one here four)) in
      sym (line_taken ns b (raw ns) part values row one extent here refl) ∙ ap (λ es. existing_values es row) (row_whole ∙ ap fours one) ∙ existing_row row long

-- a block is one where its extent is
pub row_ends : (ns : List ℕ) (b : ℕ) → IsShape ns → length ns ≡ 1 → b < blocks ns → extent_of ns b ≡ fours 1 → 4 * b + 4 ≤ get_or ns 0 1
row_ends (n ∷ []) b shape one lt whole =
    let size = ap (λ (p : Pos). p.x) (sym (ap (with_unused 1) whole) ∙ first_size (n ∷ []) b shape (omega arith)) in omega (arith, size)
row_ends ns b shape one lt whole = absurd (omega arith)
