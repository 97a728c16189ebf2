-- What a call on an array does at a position.
use Rattle.std.specs.Prelude.{ℤ, pos, Bool, List, slice_index_or, slice_set}
use Rattle.zf_base.specs.declared.position.Pos.{Pos}
use Rattle.zf_cached.specs.State.{State}
use Rattle.zf_cached.specs.Touch.{touch, touch_for_writing, with_values}
use Rattle.zf_array.specs.Standing.{Held, format, state, block_at, place_at}

-- the state of the array after a touch at a position
abbrev pub touched_at : Held → Pos → State (List Bool)
touched_at a p = touch (format a) (state a) (block_at a p)

-- the value that such a touch finds
abbrev pub found_at : Held → Pos → ℤ
found_at a p = slice_index_or ((touched_at a p).values (block_at a p)) (place_at a p) (pos 0)

-- the state after a touch for writing, which changes the value at a position
abbrev pub changed_at : Held → Pos → (ℤ → ℤ) → State (List Bool)
changed_at a p change =
    let t = touch_for_writing (format a) (state a) (block_at a p) in
    let old = t.values (block_at a p) in
    with_values t (block_at a p)
    (slice_set old (place_at a p) (change (slice_index_or old (place_at a p) (pos 0))))
