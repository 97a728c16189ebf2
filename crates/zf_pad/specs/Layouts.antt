-- Where a layout puts the positions of an array, and the places of a block of which an extent exists.
use Rattle.std.specs.Prelude.{ℕ, ◌≡◌, ◌+◌, ◌*◌, ◌^◌, ◌<◌, ◌≤◌, ◌⊎◌, true}
use Rattle.zf_spec.specs.Grid.{is_inside, indices}
use Rattle.zf_base.specs.declared.position.Pos.{Pos}
use Rattle.zf_base.specs.declared.position.Extent.{Extent}
use Rattle.zf_base.specs.Positions.{axes, with_unused, IsExtent}
use Rattle.zf_pad.specs.declared.layout.Layout.{Layout}

-- the index of a position
unfoldable pub index_of : Layout → Pos → ℕ
index_of layout p =
    layout.start + p.x * layout.step.x + p.y * layout.step.y + p.z * layout.step.z + p.w * layout.step.w

-- a position moved by another
unfoldable pub moved : Pos → Pos → Pos
moved p by = record { x = p.x + by.x; y = p.y + by.y; z = p.z + by.z; w = p.w + by.w }

-- the indices of a place of a block, along four axes
unfoldable pub place_indices : ℕ → Pos
place_indices p = with_unused 0 (indices 4 p)

-- an extent has a place of the block: the place's indices are below the extent's sizes
pub record HasPlace (e : Extent) (p : ℕ) : Type 0 where
  pub in_block : p < 4 ^ 4
  pub inside : is_inside (axes e.size) (axes (place_indices p)) ≡ true

-- the index of a place: that of its position, which is the extent's first, moved by the place's indices
abbrev pub index_at : Layout → Extent → ℕ → ℕ
index_at layout e p = index_of layout (moved e.origin (place_indices p))

-- each place of the extent lies in a list of n values
abbrev pub LiesWithin : Layout → Extent → ℕ → Type 0
LiesWithin layout e n = (p : ℕ) → HasPlace e p → index_at layout e p < n

-- different places of the extent have different indices
abbrev pub IsOneToOne : Layout → Extent → Type 0
IsOneToOne layout e =
    (p q : ℕ) → HasPlace e p → HasPlace e q → index_at layout e p ≡ index_at layout e q → p ≡ q

-- all four values of a row of the extent stand beside one another
abbrev pub HasWholeRows : Layout → Extent → Type 0
HasWholeRows layout e = (layout.step.x ≡ 1) × (e.size.x ≡ 4)

-- an extent can be copied between a list of n values and a block of so many, which has d dimensions
pub record CanCopy (layout : Layout) (e : Extent) (d n size : ℕ) : Type 0 where
  pub four_at_most : d ≤ 4
  pub extent : IsExtent d e
  pub whole : size ≡ 4 ^ d
  pub within : LiesWithin layout e n

-- the index of a place by its own indices
abbrev pub place_at : Layout → ℕ → ℕ
place_at layout p = index_of layout (place_indices p)

-- where a block has its places
unfoldable pub block_layout : Layout
block_layout = record { start = 0; step = record { x = 1; y = 4; z = 16; w = 64 } }

-- the places of an extent can be copied from a list of m values to one of n, so many at a time, where two layouts
-- put their indices, the second no two at the same
pub record CanCopyRuns (e : Extent) (d len : ℕ) (from : Layout) (m : ℕ) (to : Layout) (n : ℕ) : Type 0 where
  pub four_at_most : d ≤ 4
  pub extent : IsExtent d e
  pub run : (len ≡ 1) ⊎ ((len ≡ 4) × HasWholeRows from e × HasWholeRows to e)
  pub there : (p : ℕ) → HasPlace e p → place_at from p < m
  pub room : (p : ℕ) → HasPlace e p → place_at to p < n
  pub one_to_one : (p q : ℕ) → HasPlace e p → HasPlace e q → place_at to p ≡ place_at to q → p ≡ q
