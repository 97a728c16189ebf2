-- An array that is split into private views.
use Rattle.std.specs.Prelude.{ℕ, ◌≡◌, ◌+◌, ◌<◌, nat_lt, nat_le, ℤ, Bool, true, ◌&&◌, List, [], map, length, slice_index_or, Option, None, Some, Vec, if◌then◌else◌}
use Rattle.std.specs.Int.{Width}
use Rattle.std.specs.Vec.{vec_items}
use Rattle.zf_spec.specs.Grid.{blocks}
use Rattle.zf_cached.specs.State.{State, no_counts}
use Rattle.zf_cached.specs.Windows.{Window}
use Rattle.zf_cached.specs.Views.{View}
use Rattle.zf_cached.specs.Ownership.{first_of, count_of}
use Rattle.zf_cached.specs.Splits.{is_view_count}
use Rattle.zf_cached.specs.Commands.{Command}
use Rattle.zf_cached.specs.Replies.{Reply}
use Rattle.zf_cached.specs.Steps.{Setting, Session}
use Rattle.zf_cache.specs.Kept.{IsEmpty}
use Rattle.zf_private.specs.Standing as private
use Rattle.zf_private.specs.Several.{IsReady}
use Rattle.zf_array.specs.Standing.{Held, shape, state, format}
use Rattle.zf_array.specs.Coded.{IsCoded}
use Rattle.zf_commands.specs.Sittings.{sitting}
use Rattle.zf_commands.specs.Steps.{HasWindow, Does}
use Rattle.zf_run.specs.Sessions.{setting_of, kind, IsArray}
use Rattle.zf_run.specs.declared.splits.Parted.{Parted}

-- the lists that vectors are seen as
abbrev pub lists : {X Z : Type 0} → Option (Vec X Z) → Option (List X)
lists None = None
lists (Some views) = Some (vec_items views)

-- block b is one of the view's
abbrev pub owns_block : {X : Type 0} → private.Held X → ℕ → Bool
owns_block v b = nat_le v.first b && nat_lt b (v.first + v.count)

-- a command that does not look at the window, and keeps it: an array through each window before, and the
-- array after
abbrev pub DoesAlone : {Code : Type 0} → Setting Code → Command → (Window → Session Code)
    → (Window → Session Code)
    → Option Reply → Type 0
DoesAlone setting c before after reply =
    (v : Window) → HasWindow (before v) → Does setting c (before v) (after v) reply

module _ {X : Type 0} (value : X → ℤ) where
  -- the state of a view over the codes of an array
  abbrev pub view_state : Held → private.Held X → State (List Bool)
  view_state a v = private.state value v (format a) (state a).codes

  -- a view as the language has it: of blocks that are not its own it says nothing
  abbrev pub view_of : Held → private.Held X → View
  view_of a v =
      let s = view_state a v in
      record {
        lines = s.lines;
        held = s.held;
        dirty = s.dirty;
        values =
            λ b. if owns_block v b then s.values b else [];
        counts = s.counts;
      }

  abbrev pub views_seen : Held → List (private.Held X) → List View
  views_seen a views = map (view_of a) views

  -- what an array is split into, if it is
  abbrev pub split_of : Held → Option (List (private.Held X)) → Option (List View)
  split_of a None = None
  split_of a (Some views) = Some (views_seen a views)

  -- an array and its views, if there are some, as what a script works on
  abbrev pub parted_session : {Z : Type 0} → Held → Option (Vec (private.Held X) Z) → Window
      → Session (List Bool)
  parted_session a views window = sitting (shape a) (state a) (split_of a (lists views)) window

  -- an array that is split, and its views
  abbrev pub split_session : Held → List (private.Held X) → Window → Session (List Bool)
  split_session a views window = sitting (shape a) (state a) (Some (views_seen a views)) window

  -- a view of the blocks of part i of n, which fits the codes of the array
  pub record IsPart (d : ℕ) (a : Held) (n i : ℕ) (v : private.Held X) : Type 0 where
    pub ready : IsReady value d v (format a) (state a).codes
    pub shape_is : v.shape ≡ shape a
    pub first : v.first ≡ first_of (blocks (shape a)) n i
    pub count : v.count ≡ count_of (blocks (shape a)) n i

  -- the array stands for its codes alone, and its blocks are parted among the views in order
  pub record AreParts (w : Width) (d : ℕ) (a : Held) (views : List (private.Held X)) : Type 0 where
    pub array : IsArray w d a.header
    pub is_coded : IsCoded a
    pub number : is_view_count (blocks (shape a)) (length views) ≡ true
    pub each : (i : ℕ) (v : private.Held X) → i < length views → v ≡ slice_index_or views i v
        → IsPart d a (length views) i v

  -- they are, where there are views
  abbrev pub FitTogether : {Z : Type 0} → Width → ℕ → Held → Option (Vec (private.Held X) Z) → Type 0
  FitTogether w d a None = IsArray w d a.header
  FitTogether w d a (Some views) = AreParts w d a (vec_items views)

  -- a command on a view was done, whatever the window; the blocks are parted as before, in an array of the
  -- same kind
  pub record ViewsObey (w : Width) (d : ℕ) (c : Command) (reply : Option Reply) (a b : Held)
      (views now : List (private.Held X)) : Type 0 where
    pub does : DoesAlone (setting_of w a) c (split_session a views) (split_session b now) reply
    pub parts : AreParts w d b now
    pub kept : kind b ≡ kind a

module _ {X : Type 0} {n : ℕ} where
  -- an array that may be split, as what a script works on
  abbrev pub session_in : (X → ℤ) → Parted X n → Session (List Bool)
  session_in value p = parted_session value p.array.now p.views.now p.window

  -- the same array, of the same kind
  abbrev pub StaysParted : Parted X n → Parted X n → Type 0
  StaysParted p q = (kind q.array.now ≡ kind p.array.now) × (q.array.ghost_name ≡ p.array.ghost_name)

  -- a command was done on an array that may be split: on what it was, and what it is then
  pub record ObeysParted (value : X → ℤ) (w : Width) (p q : Parted X n) (c : Command) (reply : Option Reply)
      : Type 0 where
    pub does : Does (setting_of w p.array.now) c (session_in value p) (session_in value q) reply
    pub sound : FitTogether value w n q.array.now q.views.now
    pub kept : StaysParted p q

-- a view as it is made: nothing is in its lines, and nothing is counted
pub record IsNewPart {X : Type 0} (d : ℕ) (ns : List ℕ) (n lines i : ℕ) (v : private.Held X) : Type 0 where
  pub empty : IsEmpty v.cache lines
  pub counts : v.cache.counts ≡ no_counts
  pub shape : v.shape ≡ ns
  pub first : v.first ≡ first_of (blocks ns) n i
  pub count : v.count ≡ count_of (blocks ns) n i
  pub whole : private.IsWhole d v

-- the first k of n such views
pub record AreNewParts {X : Type 0} (d : ℕ) (ns : List ℕ) (n lines k : ℕ) (views : List (private.Held X))
    : Type 0 where
  pub many : length views ≡ k
  pub each : (i : ℕ) (v : private.Held X) → i < length views → v ≡ slice_index_or views i v
      → IsNewPart d ns n lines i v
