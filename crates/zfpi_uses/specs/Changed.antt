-- What becomes of the state of an array.
use Rattle.std.specs.Prelude.{ℕ, ℤ, Bool, List, length, slice_set}
use Rattle.zf_base.specs.Formats.{Format}
use Rattle.zf_base.specs.declared.position.Pos.{Pos}
use Rattle.zf_base.specs.Positions.{used_axes}
use Rattle.zf_base.specs.Places.{place_of}
use Rattle.zf_cached.specs.State.{State}
use Rattle.zf_cached.specs.Touch.{touch_for_writing, with_values}
use Rattle.zf_view.specs.Sums.{block_of}

-- the value at a position becomes v, by a touch for writing
abbrev pub set_in : Format (List Bool) → List ℕ → State (List Bool) → Pos → ℤ → State (List Bool)
set_in format ns s p v =
    let t = touch_for_writing format s (block_of ns p) in
    with_values t (block_of ns p) (slice_set (t.values (block_of ns p)) (place_of (used_axes (length ns) p))
    v)
