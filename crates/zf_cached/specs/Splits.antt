-- An array that is split into private views. Each has a cache of its own over blocks of its own; the codes
-- are one list.
--     While there is a split, no block is in a line of the array itself, and the array's values are those that the codes mean.
use Rattle.std.specs.Prelude.{ℕ, ◌+◌, nat_lt, nat_le, Bool, ◌&&◌, List, [], map, slice_index_or, if◌then◌else◌}
use Rattle.zf_spec.specs.Grid.{upto}
use Rattle.zf_base.specs.Formats.{Format, meant}
use Rattle.zf_cached.specs.State.{State, empty_line, none_dirty, no_counts}
use Rattle.zf_cached.specs.Ownership.{first_of}
use Rattle.zf_cached.specs.Views.{View}

-- an array of so many blocks is split into at least one view, at most 16, and no more than there are blocks
abbrev pub is_view_count : ℕ → ℕ → Bool
is_view_count blocks n = nat_lt 0 n && (nat_lt n 17 && nat_le n blocks)

-- of n views of so many blocks, view i owns block b
abbrev pub is_owner : ℕ → ℕ → ℕ → ℕ → Bool
is_owner blocks n i b = nat_le (first_of blocks n i) b && nat_lt b (first_of blocks n (i + 1))

-- a view with so many lines as it is opened: its blocks have the values that these codes mean. Of other
-- blocks it says nothing
unfoldable pub opened_view : {Code : Type 0} → Format Code → (ℕ → Code) → ℕ → (ℕ → Bool) → View
opened_view format codes lines owns =
    record {
      lines = lines;
      held = empty_line;
      dirty = none_dirty;
      values = λ b. if owns b then meant format b (codes b) else [];
      counts = no_counts;
    }

-- the n views of an array with these codes, in order
unfoldable pub opened_views : {Code : Type 0} → Format Code → (ℕ → Code) → ℕ → ℕ → List View
opened_views format codes lines n = map (λ i. opened_view format codes lines (is_owner format.blocks n i))
    (upto n)

abbrev pub no_view : View
no_view = record { lines = 0; held = empty_line; dirty = none_dirty; values = λ b. []; counts = no_counts }

-- the view of this number
abbrev pub view_at : List View → ℕ → View
view_at views i = slice_index_or views i no_view

-- an array that stands for these codes alone: no block is in a line, and each has the values that its code
-- means. The number of lines and the counts stay
unfoldable pub coded : {Code : Type 0} → Format Code → State Code → (ℕ → Code) → State Code
coded format s codes =
    record s {
      held = empty_line;
      dirty = none_dirty;
      values = λ b. meant format b (codes b);
      codes = codes;
    }
