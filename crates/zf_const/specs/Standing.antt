-- What a read-only array is seen as, and the one state that it stands for.
use Rattle.std.specs.Prelude.{ℕ, ℤ, Bool, List, map, length, slice_index_or, Option, None}
use Rattle.zf_spec.specs.Grid.{upto}
use Rattle.zf_base.specs.Widths.{width_of}
use Rattle.zf_base.specs.Positions.{used_axes}
use Rattle.zf_base.specs.declared.position.Pos.{Pos}
use Rattle.zf_base.specs.Places.{block_number, place_of}
use Rattle.zf_base.specs.Formats.{Format, meant}
use Rattle.zf_header.specs.declared.header.Header.{Header}
use Rattle.zf_header.specs.HeaderBits as header
use Rattle.zf_cached.specs.State.{Counts, State, none_dirty}
use Rattle.zf_cached.specs.Touch.{touch}
use Rattle.zf_cached.specs.Changes.{opened, raised}
use Rattle.zf_cached.specs.Arrays.{Coding, mode_coding, array_format}

-- the header of its file, and the code of each block; the block in each line, or none; the counts
pub record Held : Type 0 where
  pub header : Header
  pub codes : List (List Bool)
  pub lines : List (Option ℕ)
  pub counts : Counts

-- how the blocks of a stream with this header are coded
abbrev pub coding_of : Header → Coding (List Bool)
coding_of h = mode_coding (width_of h.ty) (header.coding h.mode)

-- the code of block b; that of a number that is no block's is the code of zeros
abbrev pub code_of : Header → List (List Bool) → ℕ → List Bool
code_of h cs b = slice_index_or cs b (coding_of h).zero

-- what never changes about its codes
abbrev pub format : Held → Format (List Bool)
format a = array_format (coding_of a.header) a.header.shape

-- the values of block b: those that its code means
abbrev pub values_at : Held → ℕ → List ℤ
values_at a b = meant (format a) b (code_of a.header a.codes b)

-- the state that it stands for: nothing is dirty
unfoldable pub state : Held → State (List Bool)
state a = record {
  lines = length a.lines;
  held = λ l. slice_index_or a.lines l None;
  dirty = none_dirty;
  values = values_at a;
  codes = code_of a.header a.codes;
  counts = a.counts;
}

-- the array after a touch of block b
unfoldable pub touched : Held → ℕ → Held
touched a b =
    let t = touch (format a) (state a) b in
    record a { lines = map t.held (upto t.lines); counts = t.counts }

-- an array with these codes as it is opened; the number of lines is raised
abbrev pub open_stream : Header → List (List Bool) → ℕ → State (List Bool)
open_stream h cs lines = opened (array_format (coding_of h) h.shape) (code_of h cs) (raised lines)

-- the sizes of an array
abbrev pub shape : Held → List ℕ
shape a = a.header.shape

-- the block of a position, and its place there
abbrev pub block_at : Held → Pos → ℕ
block_at a p = block_number (shape a) (used_axes (length (shape a)) p)

abbrev pub place_at : Held → Pos → ℕ
place_at a p = place_of (used_axes (length (shape a)) p)
