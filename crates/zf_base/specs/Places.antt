-- The block of a position, and its place there (Lindstrom 2014).
use Rattle.std.specs.Prelude.{ℕ, ◌≡◌, ◌/◌, ◌%◌, ◌^◌, ◌<◌, true, List, map, length}
use Rattle.zf_spec.specs.Grid.{grid, blocks, coordinates, raster, is_inside, fours, indices, extent_of, position_in}

-- the number of the block that a position lies in
abbrev pub block_number : List ℕ → List ℕ → ℕ
block_number ns ps = raster (grid ns) (map (λ p. p / 4) ps)

-- its place in that block
abbrev pub place_of : List ℕ → ℕ
place_of ps = raster (fours (length ps)) (map (λ p. p % 4) ps)

-- place p of block b exists, and is this position
pub record IsAt (ns ps : List ℕ) (b p : ℕ) : Type 0 where
  pub block_in_array : b < blocks ns
  pub place_in_block : p < 4 ^ length ns
  pub exists : is_inside (extent_of ns b) (indices (length ns) p) ≡ true
  pub position : position_in (coordinates (grid ns) b) (indices (length ns) p) ≡ ps
