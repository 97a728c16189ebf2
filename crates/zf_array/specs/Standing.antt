-- What an array is seen as, and the one state that it stands for.
use Rattle.std.specs.Prelude.{ℕ, ℤ, Bool, false, List, map, length, slice_index_or, Option, None}
use Rattle.zf_spec.specs.Grid.{upto, blocks}
use Rattle.zf_base.specs.Positions.{used_axes}
use Rattle.zf_base.specs.declared.position.Pos.{Pos}
use Rattle.zf_base.specs.Places.{block_number, place_of}
use Rattle.zf_base.specs.Formats.{Format}
use Rattle.zf_header.specs.declared.header.Header.{Header}
use Rattle.zf_cached.specs.State.{Counts, State}
use Rattle.zf_cached.specs.Changes.{zeros}
use Rattle.zf_store.specs.Stored as store
use Rattle.zf_store.specs.Stored.{Stored, code_at}

-- the header of its file; the block in each line, or none; which blocks are dirty; the values and the code of
-- each block; the counts
pub record Held : Type 0 where
  pub header : Header
  pub lines : List (Option ℕ)
  pub dirty : List Bool
  pub values : List (List ℤ)
  pub codes : List (List Bool)
  pub counts : Counts

-- its codes with the header of their file
abbrev pub stored : Held → Stored
stored a = record { header = a.header; codes = a.codes }

-- what never changes about its codes
abbrev pub format : Held → Format (List Bool)
format a = store.format_of (stored a)

-- the state that it stands for. A number that is no block's has zeros and their code, and is not dirty
unfoldable pub state : Held → State (List Bool)
state a = record {
  lines = length a.lines;
  held = λ l. slice_index_or a.lines l None;
  dirty = λ b. slice_index_or a.dirty b false;
  values = λ b. slice_index_or a.values b (zeros (format a));
  codes = λ b. code_at (stored a) b;
  counts = a.counts;
}

-- the array with this header that stands for a state
unfoldable pub array_of : Header → State (List Bool) → Held
array_of h s =
    let bs = upto (blocks h.shape) in
    record {
      header = h;
      lines = map s.held (upto s.lines);
      dirty = map s.dirty bs;
      values = map s.values bs;
      codes = map s.codes bs;
      counts = s.counts;
    }

-- the sizes of an array
abbrev pub shape : Held → List ℕ
shape a = a.header.shape

-- the block of a position, and its place there
abbrev pub block_at : Held → Pos → ℕ
block_at a p = block_number (shape a) (used_axes (length (shape a)) p)

abbrev pub place_at : Held → Pos → ℕ
place_at a p = place_of (used_axes (length (shape a)) p)
