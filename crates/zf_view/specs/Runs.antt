-- A run of values along x, as a view lends it.
use Rattle.std.specs.Prelude.{ℕ, ◌≡◌, ◌+◌, ◌<◌, ℤ, Bool, List, length, map, take, drop}
use Rattle.zf_base.specs.declared.position.Pos.{Pos}
use Rattle.zf_base.specs.Positions.{IsPosition}
use Rattle.zf_cached.specs.State.{State}
use Rattle.zf_cached.specs.Touch.{touch_for_writing, with_values}
use Rattle.zf_cached.specs.Windows.{Window}
use Rattle.zf_array.specs.Standing.{Held, format, state, shape, array_of, block_at, place_at}
use Rattle.zf_array.specs.Loans.{spliced}
use Rattle.zf_window.specs.Positions.{position_at, run_length}
use Rattle.zf_view.specs.Touches.{touched_at}
use Rattle.zf_view.specs.Sums.{block_of, place_in}

-- the position k further along x
abbrev pub along_x : Pos → ℕ → Pos
along_x p k = record { x = p.x + k; y = p.y; z = p.z; w = p.w }

-- the n positions of the window from p on along x are values side by side in one block of an array of these
-- sizes
pub record AreBeside (ns : List ℕ) (w : Window) (p : Pos) (n : ℕ) : Type 0 where
  pub inside : (k : ℕ) → k < n → IsPosition w.size (along_x p k)
  pub block : (k : ℕ) → k < n → block_of ns (position_at w (along_x p k)) ≡ block_of ns (position_at w p)
  pub place : (k : ℕ) → k < n → place_in ns (position_at w (along_x p k)) ≡ place_in ns (position_at w p) + k

-- of these values of a block, the n from position q on
abbrev pub run_in : List ℕ → List ℤ → Pos → ℕ → List ℤ
run_in ns vs q n = take n (drop (place_in ns q) vs)

-- a row has, of these values of a block, those at position p of the window and at those that follow along x,
-- which are side by side
pub record ShowsRunOf {X : Type 0}
    (value : X → ℤ) (ns : List ℕ) (vs : List ℤ) (w : Window) (p : Pos) (row : List X) : Type 0 where
  pub size : length row ≡ run_length w p
  pub beside : AreBeside ns w p (run_length w p)
  pub value_is : map value row ≡ run_in ns vs (position_at w p) (run_length w p)

-- the values of the block of position q of the array that a touch finds, for writing or not
abbrev pub block_found : Held → Pos → List ℤ
block_found a q = (touch_for_writing (format a) (state a) (block_at a q)).values (block_at a q)

-- the n values from position q of the array on that a touch finds
abbrev pub run_found : Held → Pos → ℕ → List ℤ
run_found a q n = run_in (shape a) (block_found a q) q n

-- a row has the values of the array at position p of the window and at those that follow along x
abbrev pub ShowsRun : {X : Type 0} → (X → ℤ) → Held → Window → Pos → List X → Type 0
ShowsRun value a w p row = ShowsRunOf value (shape a) (block_found a (position_at w p)) w p row

-- the state after a touch for writing, with these values from position q on
abbrev pub run_changed : Held → Pos → List ℤ → State (List Bool)
run_changed a q vs =
    let t = touch_for_writing (format a) (state a) (block_at a q) in
    with_values t (block_at a q) (spliced (t.values (block_at a q)) (place_at a q) (length vs) vs)

-- the array after a touch at position q
abbrev pub with_touch : Held → Pos → Held
with_touch a q = array_of a.header (touched_at a q)

-- the array of that state
abbrev pub with_run : Held → Pos → List ℤ → Held
with_run a q vs = array_of a.header (run_changed a q vs)
