-- The positions of an array that the positions of a window are.
use Rattle.std.specs.Prelude.{ℕ, ◌≡◌, ◌≤◌, ◌+◌, ◌-◌, ◌%◌, min, nat_lt, List, [], ◌∷◌, length, slice_index_or, if◌then◌else◌}
use Rattle.zf_spec.specs.Grid.{coordinates}
use Rattle.zf_base.specs.declared.position.Pos.{Pos}
use Rattle.zf_base.specs.Positions.{used_axes, with_unused}
use Rattle.zf_cached.specs.Windows.{Window, mapped}

-- the position of the array that a position of a window is
abbrev pub position_at : Window → Pos → Pos
position_at w p = with_unused 0 (mapped w (used_axes (length w.size) p))

-- position k of a window in raster order
abbrev pub numbered : Window → ℕ → Pos
numbered w k = with_unused 0 (coordinates w.size k)

-- the same as a position of the array
abbrev pub raster_at : Window → ℕ → Pos
raster_at w k = with_unused 0 (mapped w (coordinates w.size k))

-- the position behind ps in raster order, in a box of these sizes; behind the last one comes the first
abbrev pub following : List ℕ → List ℕ → List ℕ
following [] ps = []
following (n ∷ ns) [] = []
following (n ∷ ns) (p ∷ ps) = if nat_lt (p + 1) n then (p + 1) ∷ ps else 0 ∷ following ns ps

-- the step of a window along x
abbrev pub x_step : Window → ℕ
x_step w = slice_index_or w.step 0 0

-- how many positions there are from position p of a window on along x, up to the end of the block and of the
-- window
abbrev pub run_length : Window → Pos → ℕ
run_length w p = min (4 - (position_at w p).x % 4) (slice_index_or w.size 0 0 - p.x)

-- a walk over the positions of a window: the number of the next one
pub record Walking : Type 0 where
  pub window : Window
  pub next : ℕ

-- what a walk keeps: the next position has this number
pub record IsWalk (w : Window) (here : Pos) (next : ℕ) : Type 0 where
  pub four_axes_at_most : length w.size ≤ 4
  pub here_is : here ≡ numbered w next
