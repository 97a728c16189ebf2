-- What a touch of a block does, and what writes a block back.
use Rattle.std.specs.Prelude.{ℕ, ℤ, true, false, List, Some, None}
use Rattle.zf_base.specs.Formats.{Format, meant, encoded, with_at}
use Rattle.zf_cached.specs.State.{State, risen}
use Rattle.zf_cached.specs.Placing.{Line, line_in, is_at, direct}

-- write-back: the code of block b is made of its values, its values become what this code means, and it is
-- not dirty any more
unfoldable pub write_back : {Code : Type 0} → Format Code → State Code → ℕ → State Code
write_back format s b =
    let code = encoded format b (s.values b) in
    record s {
      dirty = with_at s.dirty b false;
      values = with_at s.values b (meant format b code);
      codes = with_at s.codes b code;
      counts = record s.counts { writes = risen s.counts.writes };
    }

-- a block that is clean is never written back
unfoldable pub write_back_dirty : {Code : Type 0} → Format Code → State Code → ℕ → State Code
write_back_dirty format s b = elim (s.dirty b) [ true ↦ write_back format s b | false ↦ s ]

-- the block in a line, if any, is written back where it is dirty
unfoldable pub write_back_line : {Code : Type 0} → Format Code → State Code → ℕ → State Code
write_back_line format s l = elim (s.held l) [ None ↦ s | Some b ↦ write_back_dirty format s b ]

unfoldable pub hit : {Code : Type 0} → State Code → State Code
hit s = record s { counts = record s.counts { hits = risen s.counts.hits } }

-- a miss of block b, which goes into line l: the block that was there makes room
unfoldable pub miss : {Code : Type 0} → Format Code → State Code → ℕ → ℕ → State Code
miss format s l b =
    let t = write_back_line format s l in
    record t { held = with_at t.held l (Some b); counts = record t.counts { misses = risen t.counts.misses } }

-- a touch of block b, whatever the placing: where it is not here, it is put into its line
unfoldable pub touch_at : {Code : Type 0} → Line → Format Code → State Code → ℕ → State Code
touch_at line format s b = elim (is_at line s b) [ true ↦ hit s | false ↦ miss format s (line_in line s b) b ]

-- block b is dirty
unfoldable pub soiled : {Code : Type 0} → State Code → ℕ → State Code
soiled s b = record s { dirty = with_at s.dirty b true }

-- a touch for writing: the block is dirty from then on, whatever is written
unfoldable pub touch_for_writing_at : {Code : Type 0} → Line → Format Code → State Code → ℕ → State Code
touch_for_writing_at line format s b = soiled (touch_at line format s b) b

-- these are the values of block b
unfoldable pub with_values : {Code : Type 0} → State Code → ℕ → List ℤ → State Code
with_values s b values = record s { values = with_at s.values b values }

-- ---- where each block has one line

abbrev pub touch : {Code : Type 0} → Format Code → State Code → ℕ → State Code
touch format s b = touch_at direct format s b

abbrev pub touch_for_writing : {Code : Type 0} → Format Code → State Code → ℕ → State Code
touch_for_writing format s b = touch_for_writing_at direct format s b
