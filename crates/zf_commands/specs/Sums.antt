-- Sums of the values of a block.
use Rattle.std.specs.Prelude.{ℕ, ℤ, pos, List, map, length, slice_index_or, if◌then◌else◌}
use Rattle.zf_spec.specs.Grid.{upto, is_inside, indices}
use Rattle.zf_base.specs.declared.position.Pos.{Pos}
use Rattle.zf_base.specs.Positions.{axes}

-- the value at a place that lies within these sizes, 0 at others
abbrev pub value_within : Pos → List ℤ → ℕ → ℤ
value_within size values p =
    if is_inside (axes size) (indices 4 p) then slice_index_or values p (pos 0) else pos 0

-- the values at the places that lie within these sizes, 0 at the others
abbrev pub within : Pos → List ℤ → List ℤ
within size values = map (value_within size values) (upto (length values))
