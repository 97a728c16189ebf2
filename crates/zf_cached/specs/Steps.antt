-- What a command of a script does and answers.
use Rattle.std.specs.Prelude.{ℕ, suc, zero, ◌-◌, ◌^◌, ◌==◌, nat_lt, ℤ, pos, neg_ℤ, ◌+ℤ◌, int_lt, int_le, Bool, true, false, not, ◌&&◌, List, [], ◌∷◌, length, replicate, slice_index_or, slice_set, Option, Some, None, is_none, is_some}
use Rattle.std.specs.Int.{Width}
use Rattle.std.specs.Option.{option_map}
use mir.Val.{bits}
use Rattle.zf_spec.specs.Numbers.{wrap}
use Rattle.zf_spec.specs.Grid.{upto, blocks, is_inside}
use Rattle.zf_base.specs.Places.{block_number, place_of}
use Rattle.zf_base.specs.Shapes.{shape_fault}
use Rattle.zf_base.specs.Formats.{Format, existing_of}
use Rattle.zf_cached.specs.State.{Counts, State}
use Rattle.zf_cached.specs.Touch.{soiled, with_values}
use Rattle.zf_cached.specs.Changes.{flush, discard, raised, relined, resized}
use Rattle.zf_cached.specs.Arrays.{Coding, array_format}
use Rattle.zf_cached.specs.Windows.{Window, mapped, whole, sliced, has_place, is_window, positions}
use Rattle.zf_cached.specs.Commands.{Command}
use Rattle.zf_cached.specs.Kinds.{Kind, ReadCommand, WindowCommand, WriteCommand, ArrayCommand, ViewCommand, kind_of, is_of_split}
use Rattle.zf_cached.specs.Replies.{Refusal, Reply}
use Rattle.zf_cached.specs.Acts.{Act}
use Rattle.zf_cached.specs.Views.{View, with_codes, without_codes, acted, answered}
use Rattle.zf_cached.specs.Splits.{is_view_count, is_owner, opened_views, view_at, coded}

-- what a script doesn't change: the type of the values, how blocks are coded, whether an array of these sizes
-- has room in a file, what a touch does, and which commands there are
pub record Setting (Code : Type 0) : Type 0 where
  pub width : Width
  pub coding : Coding Code
  pub has_room : List ℕ → Bool
  pub touch : Format Code → State Code → ℕ → State Code
  pub allows : Command → Bool

-- what it does change: the sizes of the array, its state, the current window, and the private views while the
-- array is split
pub record Session (Code : Type 0) : Type 0 where
  pub shape : List ℕ
  pub state : State Code
  pub window : Window
  pub split : Option (List View)

-- ---- touches at positions of the array

abbrev pub format_of : {Code : Type 0} → Setting Code → Session Code → Format Code
format_of setting s = array_format setting.coding s.shape

-- block b is touched
unfoldable pub touched : {Code : Type 0} → Setting Code → Session Code → ℕ → Session Code
touched setting s b = record s { state = setting.touch (format_of setting s) s.state b }

-- block b is touched for writing, and its values become what they are changed to
unfoldable pub changed : {Code : Type 0} → Setting Code → Session Code → ℕ → (List ℤ → List ℤ) → Session Code
changed setting s b change =
    let t = soiled (touched setting s b).state b in
    let old = t.values b in
    record s { state = with_values t b (change old) }

-- the value at position ps is changed, by one touch for writing
unfoldable pub changed_at : {Code : Type 0} → Setting Code → Session Code → List ℕ → (ℤ → ℤ) → Session Code
changed_at setting s ps change =
    let p = place_of ps in
    changed setting s (block_number s.shape ps) (λ values. slice_set values p
    (change (slice_index_or values p (pos 0))))

-- each block in order is touched for writing, and its values become v where a place exists
unfoldable pub filled_below : {Code : Type 0} → Setting Code → Session Code → ℤ → List ℕ → Session Code
filled_below setting s v [] = s
filled_below setting s v (b ∷ bs) =
    let format = format_of setting s in
    filled_below setting (changed setting s b (λ values. existing_of format b (replicate format.block_len v)))
    v bs

-- touches one after the other, and the sum, without wrap, of what each of them finds: it finds this in the
-- values of this block
unfoldable pub summed : {Code X : Type 0} → Setting Code → (X → ℕ) → (X → List ℤ → ℤ) → List X → Session Code
    → Session Code × ℤ
summed setting block found [] s = (s, pos 0)
summed setting block found (x ∷ xs) s =
    let t = touched setting s (block x) in
    let rest = summed setting block found xs t in
    (rest.0, found x (t.state.values (block x)) +ℤ rest.1)

abbrev pub total : List ℤ → ℤ
total [] = pos 0
total (v ∷ vs) = v +ℤ total vs

-- the value at a position of the array, in the values of its block
abbrev pub value_there : List ℕ → List ℤ → ℤ
value_there ps values = slice_index_or values (place_of ps) (pos 0)

-- ---- private views

abbrev pub is_split : {Code : Type 0} → Session Code → Bool
is_split s = is_some s.split

-- the views, none where there is no split
abbrev pub views_in : Option (List View) → List View
views_in None = []
views_in (Some views) = views

abbrev pub views_of : {Code : Type 0} → Session Code → List View
views_of s = views_in s.split

-- the state of view i: its own cache, over the codes as they are
abbrev pub state_of_view : {Code : Type 0} → Session Code → ℕ → State Code
state_of_view s i = with_codes (view_at (views_of s) i) s.state.codes

-- view i comes to this state, and the codes are those of it
unfoldable pub with_view : {Code : Type 0} → Setting Code → Session Code → ℕ → State Code → Session Code
with_view setting s i t =
    record s {
      state = coded (format_of setting s) s.state t.codes;
      split = Some (slice_set (views_of s) i (without_codes t));
    }

-- an act of view i, and its reply, if any
unfoldable pub by_view : {Code : Type 0} → Setting Code → Session Code → ℕ → Act → Session Code × Option Reply
by_view setting s i act =
    let t = acted setting.width (format_of setting s) (state_of_view s i) act in
    (with_view setting s i t, option_map Reply.number (answered t act))

-- the act at a position
abbrev pub at_position : {Code : Type 0} → Session Code → (ℕ → ℕ → Act) → List ℕ → Act
at_position s act ps = act (block_number s.shape ps) (place_of ps)

-- a flush, and then n views with so many lines each
unfoldable pub split_into : {Code : Type 0} → Setting Code → Session Code → ℕ → ℕ → Session Code
split_into setting s n lines =
    let t = flush (format_of setting s) s.state in
    record s { state = t; split = Some (opened_views (format_of setting s) t.codes lines n) }

-- the first n views are flushed, in order
unfoldable pub flushed_views : {Code : Type 0} → Setting Code → Session Code → ℕ → Session Code
flushed_views setting s zero = s
flushed_views setting s (suc n) = (by_view setting (flushed_views setting s n) n Act.flush).0

-- the views are flushed in order, and the split ends. Where there is none, nothing happens
unfoldable pub joined : {Code : Type 0} → Setting Code → Session Code → Session Code
joined setting s = record (flushed_views setting s (length (views_of s))) { split = None }

-- ---- refusals

-- the commands that end a split, or are on a view: while there is a split they are the only ones, and else
-- they are none
abbrev pub needs_split : Command → Bool
needs_split c = is_of_split (kind_of c)

abbrev pub refuses_split : {Code : Type 0} → Session Code → Command → Bool
refuses_split s c = elim (is_split s) [ true ↦ not (needs_split c) | false ↦ needs_split c ]

-- the numbers of the type
abbrev pub is_of_type : Width → ℤ → Bool
is_of_type w v = int_le (neg_ℤ (pos (2 ^ (bits w - 1)))) v && int_lt v (pos (2 ^ (bits w - 1)))

-- sizes that an array may be resized to: as many as before, those of a shape, and room for them in a file
abbrev pub is_new_shape : {Code : Type 0} → Setting Code → Session Code → List ℕ → Bool
is_new_shape setting s ns = (length ns == length s.shape) && (is_none (shape_fault ns) && setting.has_room ns)

abbrev pub is_line_count : ℕ → Bool
is_line_count l = nat_lt 0 l && nat_lt l 65537

-- there is such a view
abbrev pub has_view : {Code : Type 0} → Session Code → ℕ → Bool
has_view s i = nat_lt i (length (views_of s))

-- there is such a view and such a position, and the view owns its block
abbrev pub view_has : {Code : Type 0} → Session Code → ℕ → List ℕ → Bool
view_has s i ps = has_view s i && (is_inside s.shape ps && is_owner (blocks s.shape) (length (views_of s)) i
    (block_number s.shape ps))

-- the tests of a command: whether its sizes are refused, its place is out of range, its value is none of the
-- type; and whether it takes memory
pub record Tests : Type 0 where
  pub size : Bool
  pub range : Bool
  pub value : Bool
  pub memory : Bool

-- no test refuses it, and it takes no memory
abbrev pub passed : Tests
passed = record { size = false; range = false; value = false; memory = false }

abbrev pub read_tests : {Code : Type 0} → Session Code → ReadCommand → Tests
read_tests s (ReadCommand.get ps) = record passed { range = not (is_inside s.shape ps) }
read_tests s ReadCommand.sum = passed
read_tests s (ReadCommand.lines l) = record passed { size = not (is_line_count l); memory = true }
read_tests s ReadCommand.stats = passed

abbrev pub window_tests : {Code : Type 0} → Session Code → WindowCommand → Tests
window_tests s (WindowCommand.view origin size step) = record passed
    { size = not (is_window s.shape (record { origin = origin; size = size; step = step })) }
window_tests s (WindowCommand.slice axis at) = record passed { range = not (has_place s.window axis at) }
window_tests s (WindowCommand.get ps) = record passed { range = not (is_inside s.window.size ps) }
window_tests s WindowCommand.sum = passed

abbrev pub write_tests : {Code : Type 0} → Setting Code → Session Code → WriteCommand → Tests
write_tests setting s (WriteCommand.set ps v) = record passed
    { range = not (is_inside s.shape ps); value = not (is_of_type setting.width v) }
write_tests setting s (WriteCommand.add ps v) = record passed
    { range = not (is_inside s.shape ps); value = not (is_of_type setting.width v) }
write_tests setting s (WriteCommand.fill v) = record passed { value = not (is_of_type setting.width v) }
write_tests setting s WriteCommand.flush = passed
write_tests setting s WriteCommand.discard = passed

abbrev pub array_tests : {Code : Type 0} → Setting Code → Session Code → ArrayCommand → Tests
array_tests setting s (ArrayCommand.set ps v) = record passed
    { range = not (is_inside s.window.size ps); value = not (is_of_type setting.width v) }
array_tests setting s (ArrayCommand.resize ns) = record passed
    { size = not (is_new_shape setting s ns); memory = true }

abbrev pub view_tests : {Code : Type 0} → Setting Code → Session Code → ℕ → ViewCommand → Tests
view_tests setting s i (ViewCommand.get ps) = record passed { range = not (view_has s i ps) }
view_tests setting s i (ViewCommand.set ps v) = record passed
    { range = not (view_has s i ps); value = not (is_of_type setting.width v) }
view_tests setting s i (ViewCommand.add ps v) = record passed
    { range = not (view_has s i ps); value = not (is_of_type setting.width v) }
view_tests setting s i ViewCommand.flush = record passed { range = not (has_view s i) }
view_tests setting s i ViewCommand.discard = record passed { range = not (has_view s i) }
view_tests setting s i ViewCommand.stats = record passed { range = not (has_view s i) }

abbrev pub tests_of : {Code : Type 0} → Setting Code → Session Code → Kind → Tests
tests_of setting s (Kind.read c) = read_tests s c
tests_of setting s (Kind.window c) = window_tests s c
tests_of setting s (Kind.write c) = write_tests setting s c
tests_of setting s (Kind.array c) = array_tests setting s c
tests_of setting s (Kind.split n l) = record passed
    { size = not (is_view_count (format_of setting s).blocks n && is_line_count l); memory = true }
tests_of setting s Kind.join = passed
tests_of setting s (Kind.view i c) = view_tests setting s i c

abbrev pub tests : {Code : Type 0} → Setting Code → Session Code → Command → Tests
tests setting s c = tests_of setting s (kind_of c)

-- the first test that refuses: of a split, of sizes, of a range, of a value, and whether there is no memory
abbrev pub first_refusal : Bool → Bool → Bool → Bool → Bool → Option Refusal
first_refusal split size range value memory =
    elim split [
      | true ↦ Some Refusal.split
      | false ↦
          elim size [
            | true ↦ Some Refusal.size
            | false ↦
                elim range [
                  | true ↦ Some Refusal.range
                  | false ↦
                      elim value [
                        | true ↦ Some Refusal.value
                        | false ↦ elim memory [ true ↦ Some Refusal.memory | false ↦ None ]
                      ]
                ]
          ]
    ]

-- why a command is refused, if it is; whether it is out of memory is given
unfoldable pub refusal : {Code : Type 0} → Setting Code → Session Code → Command → Bool → Option Refusal
refusal setting s c starving =
    let t = tests setting s c in
    first_refusal (refuses_split s c) t.size t.range t.value (t.memory && starving)

-- ---- commands

abbrev pub counts_reply : Counts → Reply
counts_reply counts = Reply.counts counts.hits counts.misses counts.writes

-- what a command that is not refused does, and its reply, if any, by its kind
abbrev pub read_done : {Code : Type 0} → Setting Code → Session Code → ReadCommand → Session Code
    × Option Reply
read_done setting s (ReadCommand.get ps) =
    let t = touched setting s (block_number s.shape ps) in
    (t, Some (Reply.number (value_there ps (t.state.values (block_number s.shape ps)))))
read_done setting s ReadCommand.sum =
    let r = summed setting (λ b. b) (λ b values. total values) (upto (format_of setting s).blocks) s in
    (r.0, Some (Reply.number r.1))
read_done setting s (ReadCommand.lines l) = (
  record s { state = relined (format_of setting s) s.state (raised l) },
  None,
)
read_done setting s ReadCommand.stats = (s, Some (counts_reply s.state.counts))

abbrev pub window_done : {Code : Type 0} → Setting Code → Session Code → WindowCommand → Session Code
    × Option Reply
window_done setting s (WindowCommand.view origin size step) = (
  record s { window = record { origin = origin; size = size; step = step } },
  None,
)
window_done setting s (WindowCommand.slice axis at) = (record s { window = sliced s.window axis at }, None)
window_done setting s (WindowCommand.get ps) =
    let at = mapped s.window ps in
    let t = touched setting s (block_number s.shape at) in
    (t, Some (Reply.number (value_there at (t.state.values (block_number s.shape at)))))
window_done setting s WindowCommand.sum =
    let r = summed setting (block_number s.shape) value_there (positions s.window) s in
    (r.0, Some (Reply.number r.1))

abbrev pub write_done : {Code : Type 0} → Setting Code → Session Code → WriteCommand → Session Code
    × Option Reply
write_done setting s (WriteCommand.set ps v) = (changed_at setting s ps (λ old. v), None)
write_done setting s (WriteCommand.add ps v) =
    (changed_at setting s ps (λ old. wrap setting.width (old +ℤ v)), None)
write_done setting s (WriteCommand.fill v) =
    (filled_below setting s v (upto (format_of setting s).blocks), None)
write_done setting s WriteCommand.flush = (record s { state = flush (format_of setting s) s.state }, None)
write_done setting s WriteCommand.discard = (record s { state = discard (format_of setting s) s.state }, None)

abbrev pub array_done : {Code : Type 0} → Setting Code → Session Code → ArrayCommand → Session Code
    × Option Reply
array_done setting s (ArrayCommand.set ps v) = (changed_at setting s (mapped s.window ps) (λ old. v), None)
array_done setting s (ArrayCommand.resize ns) = (
  record s {
    shape = ns;
    state = resized (array_format setting.coding ns) setting.coding.zero s.state;
    window = whole ns;
  },
  None,
)

abbrev pub view_done : {Code : Type 0} → Setting Code → Session Code → ℕ → ViewCommand → Session Code
    × Option Reply
view_done setting s i (ViewCommand.get ps) = by_view setting s i (at_position s Act.get ps)
view_done setting s i (ViewCommand.set ps v) =
    by_view setting s i (at_position s (λ b p. Act.set b p v) ps)
view_done setting s i (ViewCommand.add ps v) =
    by_view setting s i (at_position s (λ b p. Act.add b p v) ps)
view_done setting s i ViewCommand.flush = by_view setting s i Act.flush
view_done setting s i ViewCommand.discard = by_view setting s i Act.discard
view_done setting s i ViewCommand.stats = (s, Some (counts_reply (view_at (views_of s) i).counts))

abbrev pub done_of : {Code : Type 0} → Setting Code → Session Code → Kind → Session Code × Option Reply
done_of setting s (Kind.read c) = read_done setting s c
done_of setting s (Kind.window c) = window_done setting s c
done_of setting s (Kind.write c) = write_done setting s c
done_of setting s (Kind.array c) = array_done setting s c
done_of setting s (Kind.split n l) = (split_into setting s n (raised l), None)
done_of setting s Kind.join = (joined setting s, None)
done_of setting s (Kind.view i c) = view_done setting s i c

unfoldable pub done : {Code : Type 0} → Setting Code → Session Code → Command → Session Code × Option Reply
done setting s c = done_of setting s (kind_of c)

-- the step of a command: a refusal changes nothing
unfoldable pub step : {Code : Type 0} → Setting Code → Session Code → Command → Bool → Session Code
    × Option Reply
step setting s c starving = elim (refusal setting s c starving)
    [ Some why ↦ (s, Some (Reply.refused why)) | None ↦ done setting s c ]
