-- The blocks and places of the positions of a window, which stand side by side along x.
use Rattle.std.specs.Prelude.{ℕ, ◌+◌, ◌-◌, ◌<◌, ◌≤◌, ◌==◌, List, if◌then◌else◌}
use Rattle.zf_spec.specs.Grid.{IsShape, coordinates}
use Rattle.zf_base.specs.declared.position.Pos.{Pos}
use Rattle.zf_base.specs.Places.{IsAt}
use Rattle.zf_cached.specs.Windows.{Window, LiesIn, mapped}
use Rattle.zf_window.specs.Positions.{Walking, run_length, x_step}
use Rattle.zf_window.specs.declared.walk.Run.{Run}

-- position k of the window, in raster order, is at place p of block b of an array of these sizes
abbrev pub IsThere : List ℕ → Window → ℕ → ℕ → ℕ → Type 0
IsThere ns w k b p = IsAt ns (mapped w (coordinates w.size k)) b p

-- how many positions stand side by side in one block from position p of a window on along x
abbrev pub side_count : Window → Pos → ℕ
side_count w p = if x_step w == 1 then run_length w p else 1

-- positions of the window from number k on are side by side in a block
abbrev pub AreBeside : List ℕ → Window → ℕ → Run → Type 0
AreBeside ns w k run = (i : ℕ) → i < run.count → IsThere ns w (k + i) run.block (run.place + i)

-- they are, and there is at least one
pub record IsRun (ns : List ℕ) (w : Window) (k : ℕ) (run : Run) : Type 0 where
  pub some : 0 < run.count
  pub beside : AreBeside ns w k run

-- a walk over a window of an array of these sizes: the number of the next position
pub record WalkingIn : Type 0 where
  pub shape : List ℕ
  pub window : Window
  pub next : ℕ

-- the number of the next position, where so much is left of a run and the walk goes on behind that
abbrev pub next_of : Walking → Run → ℕ
next_of walk rest = walk.next - rest.count

-- what it keeps: what is left of a run is side by side, and the walk goes on behind it
pub record IsWalkIn (ns : List ℕ) (walk : Walking) (rest : Run) : Type 0 where
  pub sizes : IsShape ns
  pub lies : LiesIn ns walk.window
  pub behind : rest.count ≤ walk.next
  pub beside : AreBeside ns walk.window (next_of walk rest) rest
