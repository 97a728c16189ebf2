-- A script over a plain array of values, with no cache and so with no rounding; and when a cache has lines
-- enough for a script to answer as over such an array.
use Rattle.std.specs.Prelude.{ℕ, ◌≡◌, suc, ◌==◌, ◌<◌, ◌≤◌, Bool, true, false, List, [], ◌∷◌, length, Option, Some, None, ⊤}
use Rattle.std.specs.List.{list_any}
use Rattle.zf_base.specs.Formats.{Format}
use Rattle.zf_cached.specs.State.{State}
use Rattle.zf_cached.specs.Placing.{Line}
use Rattle.zf_cached.specs.Changes.{opened}
use Rattle.zf_cached.specs.Arrays.{array_format}
use Rattle.zf_cached.specs.Windows.{whole}
use Rattle.zf_cached.specs.Commands.{Command}
use Rattle.zf_cached.specs.Kinds.{Kind, ReadCommand, WriteCommand, ArrayCommand, kind_of}
use Rattle.zf_cached.specs.Replies.{Reply}
use Rattle.zf_cached.specs.Grammar.{read_line}
use Rattle.zf_cached.specs.Steps.{Setting, Session, refusal}
use Rattle.zf_cached.specs.Runs.{line_step}

-- the same commands over a plain array: a touch finds the values as they stand, and changes nothing
abbrev pub uncached : {Code : Type 0} → Setting Code → Setting Code
uncached setting = record setting { touch = λ format s b. s }

-- a reply, whatever the counts that it tells
abbrev pub but_counts : Reply → Reply
but_counts (Reply.counts hits misses writes) = Reply.counts 0 0 0
but_counts reply = reply

-- the kinds that read and write values, move the window, or tell the counts: all but flush, discard, a new
-- number of lines, resize, a split, and those in a split
abbrev pub is_on_values : Kind → Bool
is_on_values (Kind.read (ReadCommand.lines l)) = false
is_on_values (Kind.read c) = true
is_on_values (Kind.window c) = true
is_on_values (Kind.write WriteCommand.flush) = false
is_on_values (Kind.write WriteCommand.discard) = false
is_on_values (Kind.write c) = true
is_on_values (Kind.array (ArrayCommand.set ps v)) = true
is_on_values _ = false

-- the command of a line, if there is one, is refused or is of these kinds
abbrev pub IsOnValues : {Code : Type 0} → Setting Code → Session Code → List ℕ → Bool → Type 0
IsOnValues setting s line starving =
    (c : Command) → read_line (length s.shape) line ≡ Some c → setting.allows c ≡ true
    → refusal setting s c starving ≡ None → is_on_values (kind_of c) ≡ true

-- so is that of each of these lines, as `run_lines` comes to them
unfoldable pub AreOnValues : {Code : Type 0} → Setting Code → List ℕ → ℕ → List (List ℕ) → Session Code
    → Type 0
AreOnValues setting starved k [] s = ⊤
AreOnValues setting starved k (line ∷ lines) s =
    let starving = list_any (λ n. n == k) starved in
    IsOnValues setting s line starving
    × AreOnValues setting starved (suc k) lines (line_step setting s line starving).0

-- a block whose number is below the number of lines has the line of its number
abbrev pub HasOwnLines : Line → Type 0
HasOwnLines line = (n : ℕ) (held : ℕ → Option ℕ) (dirty : ℕ → Bool) (b : ℕ) → b < n → line n held dirty b ≡ b

-- there are at least as many lines as blocks, and a line that holds a block holds that of its own number
pub record HasEnoughLines {Code : Type 0} (format : Format Code) (s : State Code) : Type 0 where
  pub enough : format.blocks ≤ s.lines
  pub own : (l b : ℕ) → s.held l ≡ Some b → b ≡ l

-- an array with these codes as a script finds it: opened, and seen whole
abbrev pub opened_session : {Code : Type 0} → Setting Code → List ℕ → (ℕ → Code) → ℕ → Session Code
opened_session setting shape codes lines = record {
  shape = shape;
  state = opened (array_format setting.coding shape) codes lines;
  window = whole shape;
  split = None;
}

-- a state in which only the lines and the counts differ from those of another, and there are lines enough
pub record KeepsBlocks {Code : Type 0} (format : Format Code) (s t : State Code) : Type 0 where
  pub values : t.values ≡ s.values
  pub codes : t.codes ≡ s.codes
  pub dirty : t.dirty ≡ s.dirty
  pub enough : HasEnoughLines format t

-- two sessions show the same values, in the same sizes and through the same window
pub record ShowTheSame {Code : Type 0} (s t : Session Code) : Type 0 where
  pub shape : t.shape ≡ s.shape
  pub window : t.window ≡ s.window
  pub values : t.state.values ≡ s.state.values
