-- What holds of the fields of a window, and why numbers are no window.
use Rattle.std.specs.Prelude.{ℕ, ◌≡◌, ◌^◌, ◌≤◌, List, map, Option, Some, None, if◌then◌else◌}
use Rattle.zf_base.specs.declared.position.Pos.{Pos}
use Rattle.zf_base.specs.Positions.{used_axes, with_unused}
use Rattle.zf_cached.specs.Windows.{Window, LiesIn, none_zero, lies_in}
use Rattle.zf_window.specs.declared.window.ViewFault.{ViewFault}
use Rattle.zf_window.specs.declared.window.ViewFault.TheVariants.{Zero, Step, Outside}

-- the window of these origins, sizes and steps along the first d axes
abbrev pub window_of : ℕ → Pos → Pos → Pos → Window
window_of d origin size step = record {
  origin = used_axes d origin;
  size = used_axes d size;
  step =
      used_axes d step;
}

-- along axes that are not used an origin is 0, a size is 1 and a step is 1
pub record AreUnused (d : ℕ) (origin size step : Pos) : Type 0 where
  pub origins : origin ≡ with_unused 0 (used_axes d origin)
  pub sizes : size ≡ with_unused 1 (used_axes d size)
  pub steps : step ≡ with_unused 1 (used_axes d step)

-- an array with these axes, as large as an array can be along each
abbrev pub largest : List ℕ → List ℕ
largest ns = map (λ n. 2 ^ 48) ns

-- what a window keeps: it is one of the largest array, so that no size and no step is 0, and its last
-- position is below 2^48 on each axis
pub record IsWindowOf (d : ℕ) (origin size step : Pos) : Type 0 where
  pub one_at_least : 1 ≤ d
  pub four_at_most : d ≤ 4
  pub unused : AreUnused d origin size step
  pub inside : LiesIn (largest (used_axes d size)) (window_of d origin size step)

-- why this is no window of an array of these sizes: a size is zero, else a step is, else the last position
-- lies outside
abbrev pub view_fault : List ℕ → Window → Option ViewFault
view_fault ns w = if none_zero w.size then (if none_zero w.step then
    (if lies_in ns w then None else Some Outside) else Some Step) else Some Zero
