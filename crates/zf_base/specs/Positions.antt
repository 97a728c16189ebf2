-- Positions, sizes and extents as lists, x first. Along the axes that an array does not use, a coordinate is
-- 0 and a size is 1.
use Rattle.std.specs.Prelude.{ℕ, ◌≡◌, ◌≤◌, true, List, [], ◌∷◌, length, take, slice_index_or}
use Rattle.std.specs.List.{AllByRecursion}
use Rattle.zf_spec.specs.Grid.{IsShape, is_inside}
use Rattle.zf_base.specs.declared.position.Pos.{Pos}
use Rattle.zf_base.specs.declared.position.Extent.{Extent}

-- the four numbers
abbrev pub axes : Pos → List ℕ
axes p = p.x ∷ p.y ∷ p.z ∷ p.w ∷ []

-- those along the first d axes
abbrev pub used_axes : ℕ → Pos → List ℕ
used_axes d p = take d (axes p)

-- these along the first axes, and n along the others
abbrev pub with_unused : ℕ → List ℕ → Pos
with_unused n ns = record {
  x = slice_index_or ns 0 n;
  y = slice_index_or ns 1 n;
  z = slice_index_or ns 2 n;
  w = slice_index_or ns 3 n;
}

-- sizes as a shape keeps them: those along its d axes are a shape's, and the others are 1
pub record IsShapeOf (d : ℕ) (sizes : Pos) : Type 0 where
  pub shape : IsShape (used_axes d sizes)
  pub dimension : d ≡ length (used_axes d sizes)
  pub unused : sizes ≡ with_unused 1 (used_axes d sizes)

-- a position of an array of these sizes: each coordinate is below its size
pub record IsPosition (ns : List ℕ) (p : Pos) : Type 0 where
  pub inside : is_inside ns (used_axes (length ns) p) ≡ true
  pub unused : p ≡ with_unused 0 (used_axes (length ns) p)

-- an extent in d dimensions: its sizes are 1 to 4
pub record IsExtent (d : ℕ) (e : Extent) : Type 0 where
  pub not_zero : AllByRecursion (λ n. 1 ≤ n) (used_axes d e.size)
  pub four_at_most : AllByRecursion (λ n. n ≤ 4) (used_axes d e.size)
  pub unused : e.size ≡ with_unused 1 (used_axes d e.size)
