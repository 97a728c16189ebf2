-- The state of a cached array: its cache lines, what is in them, and the values and the code of each block.
--     Lines and blocks are numbered from 0. What is said of a number that is no line's or no block's counts for nothing.
use Rattle.std.specs.Prelude.{ℕ, ◌+◌, ◌-◌, ◌^◌, ◌%◌, ◌==◌, min, ℤ, Bool, false, List, Option, Some, None}

-- how often a touched block was in its line, how often it was not, and how many blocks were written back
pub record Counts : Type 0 where
  pub hits : ℕ
  pub misses : ℕ
  pub writes : ℕ

-- the number of lines; the block in each line, or none; which blocks are dirty; the values and the code of
-- each block; the counts
pub record State (Code : Type 0) : Type 0 where
  pub lines : ℕ
  pub held : ℕ → Option ℕ
  pub dirty : ℕ → Bool
  pub values : ℕ → List ℤ
  pub codes : ℕ → Code
  pub counts : Counts

-- a line with nothing in it
abbrev pub empty_line : ℕ → Option ℕ
empty_line l = None

-- no block is dirty
abbrev pub none_dirty : ℕ → Bool
none_dirty b = false

abbrev pub no_counts : Counts
no_counts = record { hits = 0; misses = 0; writes = 0 }

-- the most that a count says
abbrev pub most_counted : ℕ
most_counted = 2 ^ 64 - 1

-- a count that rises by one; at its most it stays
abbrev pub risen : ℕ → ℕ
risen n = min (n + 1) most_counted

-- the line of a block: blocks share a line exactly where their numbers agree modulo the number of lines (this
-- project's own)
abbrev pub own_line : {Code : Type 0} → State Code → ℕ → ℕ
own_line s b = b % s.lines

abbrev pub is_block : Option ℕ → ℕ → Bool
is_block None b = false
is_block (Some a) b = a == b

-- block b is here: it is in its line
abbrev pub is_here : {Code : Type 0} → State Code → ℕ → Bool
is_here s b = is_block (s.held (own_line s b)) b
