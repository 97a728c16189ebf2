-- The parts of a touch, and a value that is put into a block.
use Rattle.std.specs.Prelude.{ℕ, ℤ, true, false, slice_set, Some}
use Rattle.zf_base.specs.Formats.{Format, existing_of, with_at}
use Rattle.zf_cached.specs.State.{State, is_block, risen}
use Rattle.zf_cached.specs.Placing.{Line, direct}
use Rattle.zf_cached.specs.Touch.{hit, miss, touch_for_writing_at, with_values}

-- block b is put into line l
unfoldable pub taken_in : {Code : Type 0} → State Code → ℕ → ℕ → State Code
taken_in s l b = record s
    { held = with_at s.held l (Some b); counts = record s.counts { misses = risen s.counts.misses } }

-- block b, which is in line l or goes there, is touched
unfoldable pub touch_in : {Code : Type 0} → Format Code → State Code → ℕ → ℕ → State Code
touch_in format s l b = elim (is_block (s.held l) b) [ true ↦ hit s | false ↦ miss format s l b ]

-- the value at place p of block b becomes v, where that place exists; the others stay
unfoldable pub with_value : {Code : Type 0} → Format Code → State Code → ℕ → ℕ → ℤ → State Code
with_value format t b p v = with_values t b (existing_of format b (slice_set (t.values b) p v))

-- block b is touched for writing, and the value at its place p becomes v, where that place exists; the others
-- stay
unfoldable pub put_at : {Code : Type 0} → Line → Format Code → State Code → ℕ → ℕ → ℤ → State Code
put_at line format s b p v = with_value format (touch_for_writing_at line format s b) b p v

-- where each block has one line
abbrev pub put : {Code : Type 0} → Format Code → State Code → ℕ → ℕ → ℤ → State Code
put format s b p v = put_at direct format s b p v
