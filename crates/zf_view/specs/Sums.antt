-- Sums of the values of an array in a window, by one touch a value.
use Rattle.std.specs.Prelude.{ℕ, zero, suc, ℤ, pos, ◌+ℤ◌, List, length, slice_index_or}
use Rattle.zf_base.specs.Formats.{Format}
use Rattle.zf_base.specs.declared.position.Pos.{Pos}
use Rattle.zf_base.specs.Positions.{used_axes}
use Rattle.zf_base.specs.Places.{block_number, place_of}
use Rattle.zf_cached.specs.State.{State}
use Rattle.zf_cached.specs.Touch.{touch}
use Rattle.zf_cached.specs.Windows.{Window}
use Rattle.zf_window.specs.Positions.{raster_at}

-- the block of a position of an array of these sizes
abbrev pub block_of : List ℕ → Pos → ℕ
block_of ns p = block_number ns (used_axes (length ns) p)

-- its place there
abbrev pub place_in : List ℕ → Pos → ℕ
place_in ns p = place_of (used_axes (length ns) p)

-- the value at a position in a state
abbrev pub value_in : {Code : Type 0} → List ℕ → State Code → Pos → ℤ
value_in ns s p = slice_index_or (s.values (block_of ns p)) (place_in ns p) (pos 0)

-- the sum, without wrap, of the values at the first n positions of a window in raster order
unfoldable pub sum_in : {Code : Type 0} → List ℕ → State Code → Window → ℕ → ℤ
sum_in ns s w zero = pos 0
sum_in ns s w (suc n) = sum_in ns s w n +ℤ value_in ns s (raster_at w n)

-- the state after touches of these positions, one after the other
unfoldable pub touched_to : {Code : Type 0} → Format Code → List ℕ → State Code → Window → ℕ → State Code
touched_to format ns s w zero = s
touched_to format ns s w (suc n) = touch format (touched_to format ns s w n) (block_of ns (raster_at w n))

-- the sum, without wrap, of the values that these touches find
unfoldable pub sum_found : {Code : Type 0} → Format Code → List ℕ → State Code → Window → ℕ → ℤ
sum_found format ns s w zero = pos 0
sum_found format ns s w (suc n) = sum_found format ns s w n +ℤ value_in ns (touched_to format ns s w (suc n))
    (raster_at w n)
