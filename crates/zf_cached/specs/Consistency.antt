-- What holds of every state of a cached array that is reached, whatever its placing, and of every state of a
-- view of some of its blocks.
use Rattle.std.specs.Prelude.{ℕ, ◌≡◌, ◌≤◌, ◌<◌, Bool, true, false, List, length, Some, ⊤}
use Rattle.zf_spec.specs.Grid.{IsShape}
use Rattle.zf_base.specs.Formats.{Format, existing_of, meant}
use Rattle.zf_cached.specs.State.{State}
use Rattle.zf_cached.specs.Changes.{zeros}
use Rattle.zf_cached.specs.Arrays.{array_format}
use Rattle.zf_cached.specs.Touch.{touch_at}
use Rattle.zf_cached.specs.Placing.{Line, direct, line_in}
use Rattle.zf_cached.specs.Acts.{Act}
use Rattle.zf_cached.specs.Splits.{is_owner}
use Rattle.zf_cached.specs.Windows.{LiesIn}
use Rattle.zf_cached.specs.Steps.{Setting, Session, format_of, is_split, views_of, state_of_view}

-- an array owns all blocks
abbrev pub every : ℕ → Bool
every b = true

-- there is a line; a block in a line is owned, and is where it is looked for; a dirty block is in its line;
-- an owned block that is clean has the values that its code means; and an owned block has as many values as
-- it has places, 0 where no place exists
pub record IsConsistent {Code : Type 0} (line : Line) (owned : ℕ → Bool) (format : Format Code)
    (s : State Code) : Type 0 where
  pub some_line : 1 ≤ s.lines
  pub in_its_line : (l b : ℕ) → s.held l ≡ Some b → line_in line s b ≡ l
  pub held_is_owned : (l b : ℕ) → s.held l ≡ Some b → owned b ≡ true
  pub dirty_is_here : (b : ℕ) → s.dirty b ≡ true → s.held (line_in line s b) ≡ Some b
  pub clean_is_coded : (b : ℕ) → owned b ≡ true → s.dirty b ≡ false → s.values b ≡ meant format b (s.codes b)
  pub whole : (b : ℕ) → owned b ≡ true → existing_of format b (s.values b) ≡ s.values b

-- an act is on a place that exists, in a block that is owned
abbrev pub IsPossible : {Code : Type 0} → (ℕ → Bool) → Format Code → Act → Type 0
IsPossible owned format (Act.get b p) = owned b ≡ true
IsPossible owned format (Act.set b p v) = (owned b ≡ true) × (format.exists b p ≡ true)
IsPossible owned format (Act.add b p v) = (owned b ≡ true) × (format.exists b p ≡ true)
IsPossible owned format Act.flush = ⊤
IsPossible owned format Act.discard = ⊤

-- no block is dirty, and none is in any line
pub record IsEmpty {Code : Type 0} (s : State Code) : Type 0 where
  pub none_dirty : (b : ℕ) → s.dirty b ≡ false
  pub none_held : (l b : ℕ) → s.held l ≡ Some b → ⊥

-- a setting with the touch of a cache with this placing, and a code of zeros
pub record IsCached {Code : Type 0} (line : Line) (setting : Setting Code) : Type 0 where
  pub touches : setting.touch ≡ touch_at line
  pub zero : (ns : List ℕ) (b : ℕ) → meant (array_format setting.coding ns) b setting.coding.zero
      ≡ zeros (array_format setting.coding ns)

-- a run stands over an array of a shape, in a state that is reached, and its window lies in it; while there
-- is a split, no block is in a line of the array, and each view is in a state that is reached, of its own
-- blocks
pub record IsSound {Code : Type 0} (line : Line) (setting : Setting Code) (s : Session Code) : Type 0 where
  pub shape : IsShape s.shape
  pub state : IsConsistent line every (format_of setting s) s.state
  pub window : LiesIn s.shape s.window
  pub split : is_split s ≡ true → IsEmpty s.state
  pub views : (i : ℕ) → i < length (views_of s) → IsConsistent direct
      (is_owner (format_of setting s).blocks (length (views_of s)) i) (format_of setting s)
      (state_of_view s i)
