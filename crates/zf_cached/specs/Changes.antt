-- What changes a cached array as a whole.
use Rattle.std.specs.Prelude.{ℕ, suc, zero, ◌*◌, ℤ, pos, Bool, true, false, nat_le, List, replicate, if◌then◌else◌}
use Rattle.zf_base.specs.Formats.{Format, meant}
use Rattle.zf_cached.specs.State.{State, empty_line, none_dirty, no_counts}
use Rattle.zf_cached.specs.Touch.{write_back_line}

-- the dirty blocks of the first n lines are written back, in the order of lines
unfoldable pub write_back_lines : {Code : Type 0} → Format Code → State Code → ℕ → State Code
write_back_lines format s zero = s
write_back_lines format s (suc n) = write_back_line format (write_back_lines format s n) n

-- no block is in any line
unfoldable pub emptied : {Code : Type 0} → State Code → State Code
emptied s = record s { held = empty_line }

-- flush: every dirty block is written back, then no block is in any line
unfoldable pub flush : {Code : Type 0} → Format Code → State Code → State Code
flush format s = emptied (write_back_lines format s s.lines)

-- discard: each dirty block has the values that its code means, and no block is dirty or in any line
unfoldable pub discard : {Code : Type 0} → Format Code → State Code → State Code
discard format s =
    record s {
      held = empty_line;
      dirty = none_dirty;
      values = λ b. if s.dirty b then meant format b (s.codes b) else s.values b;
    }

-- the first of p, 2 * p, 4 * p, .. that passes a test, or 2^n * p
abbrev pub first_doubled : (ℕ → Bool) → ℕ → ℕ → ℕ
first_doubled test zero p = p
first_doubled test (suc n) p = elim (test p) [ true ↦ p | false ↦ first_doubled test n (2 * p) ]

-- a number of lines, 1 to 65536, is raised to the least power of two that is at least as great
unfoldable pub raised : ℕ → ℕ
raised lines = first_doubled (λ p. nat_le lines p) 16 1

-- the number of lines that an array has by itself: the least power of two whose square is at least the number
-- of blocks
unfoldable pub default_lines : ℕ → ℕ
default_lines blocks = first_doubled (λ p. nat_le blocks (p * p)) 16 1

-- a new number of lines: a flush, and then this number
unfoldable pub relined : {Code : Type 0} → Format Code → State Code → ℕ → State Code
relined format s lines = record (flush format s) { lines = lines }

-- an array with these codes as it is opened: each block has the values that its code means, and nothing is in
-- any line
unfoldable pub opened : {Code : Type 0} → Format Code → (ℕ → Code) → ℕ → State Code
opened format codes lines =
    record {
      lines = lines;
      held = empty_line;
      dirty = none_dirty;
      values = λ b. meant format b (codes b);
      codes = codes;
      counts = no_counts;
    }

-- a block of zeros
unfoldable pub zeros : {Code : Type 0} → Format Code → List ℤ
zeros format = replicate format.block_len (pos 0)

-- resize: values of zero, and the code of zeros for each block of the new format; the number of lines and the
-- counts stay
unfoldable pub resized : {Code : Type 0} → Format Code → Code → State Code → State Code
resized format code s =
    record s {
      held = empty_line;
      dirty = none_dirty;
      values = λ b. zeros format;
      codes = λ b. code;
    }
