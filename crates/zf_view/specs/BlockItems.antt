-- The blocks of a shape, in order.
use Rattle.std.specs.Prelude.{ℕ, ◌≡◌, ◌-◌, ◌*◌, ◌≤◌, List, map}
use Rattle.zf_spec.specs.Grid.{count_from, upto, grid, blocks, coordinates, extent_of}
use Rattle.zf_base.specs.Positions.{with_unused}
use Rattle.zf_base.specs.declared.position.Extent.{Extent}

-- the part of block b that lies in an array of these sizes: its first position, and its sizes
abbrev pub part_of : List ℕ → ℕ → Extent
part_of ns b = record {
  origin = with_unused 0 (map (λ c. 4 * c) (coordinates (grid ns) b));
  size = with_unused 1 (extent_of ns b);
}

-- a block's number, and the part of it that exists
abbrev pub block_item : List ℕ → ℕ → ℕ × Extent
block_item ns b = (b, part_of ns b)

-- the blocks of an array of these sizes, in the order of their numbers
abbrev pub block_items : List ℕ → List (ℕ × Extent)
block_items ns = map (block_item ns) (upto (blocks ns))

-- those from block b on
abbrev pub items_from : List ℕ → ℕ → List (ℕ × Extent)
items_from ns b = map (block_item ns) (count_from b (blocks ns - b))

-- what an iterator over the blocks keeps: its next block is one of the array's or the one behind the last,
-- and it knows how many there are
pub record IsAtBlock (ns : List ℕ) (next end : ℕ) : Type 0 where
  pub next_at_most : next ≤ end
  pub end_is : end ≡ blocks ns
