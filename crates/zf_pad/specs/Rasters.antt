-- The layout of raw values, and the extent of a block of an array.
use Rattle.std.specs.Prelude.{ℕ, ◌≡◌, ◌*◌, ◌<◌, List, map, length}
use Rattle.zf_spec.specs.Grid.{IsShape, grid, blocks, coordinates, raster, extent_of}
use Rattle.zf_base.specs.declared.position.Pos.{Pos}
use Rattle.zf_base.specs.declared.position.Extent.{Extent}
use Rattle.zf_base.specs.Positions.{used_axes, with_unused, IsPosition}
use Rattle.zf_pad.specs.declared.layout.Layout.{Layout}
use Rattle.zf_pad.specs.Layouts.{index_of}

-- each position of the array is at its raster number
abbrev pub IsRaster : List ℕ → Layout → Type 0
IsRaster ns layout = (p : Pos) → IsPosition ns p → index_of layout p ≡ raster ns (used_axes (length ns) p)

-- e is the part of block b that lies in the array, whose raw values have this layout
pub record IsRasterBlock (ns : List ℕ) (b : ℕ) (layout : Layout) (e : Extent) : Type 0 where
  pub shape : IsShape ns
  pub in_array : b < blocks ns
  pub raster_layout : IsRaster ns layout
  pub origin : e.origin ≡ with_unused 0 (map (λ c. 4 * c) (coordinates (grid ns) b))
  pub size : e.size ≡ with_unused 1 (extent_of ns b)
