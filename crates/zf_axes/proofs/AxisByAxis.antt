-- Passes along all axes, one after the other, and how long the block is after them.
use Rattle.std.proofs.Common.{◌≡◌, ℕ, zero, suc, ◌+◌, ◌-◌, ◌*◌, ◌^◌, ◌<◌, ◌≤◌, ℤ, List, length, refl, ap, ◌∙◌, arith}
use Rattle.zf_spec.specs.Lift.{along, along_axes, along_axes_back}
use Rattle.zf_axes.{proofs.Strides.{step_next}, proofs.LineByLine.{length-along}}

-- what the axes to come make of the block is what they make of it after a pass along the first of them, with one axis less
pub along_axes-next : (f : ℤ → ℤ → ℤ → ℤ → List ℤ) (axis d : ℕ) (all now passed : List ℤ) → axis < d → passed ≡ along f (4 ^ axis) now
    → along_axes f (4 ^ axis) (d - axis) now ≡ all → along_axes f (4 ^ (axis + 1)) (d - (axis + 1)) passed ≡ all
along_axes-next f axis d all now passed below is before =
    let more : d - axis ≡ suc (d - (axis + 1)) = omega arith in
    rw (step_next axis, is) (rw more at before)

-- the axes that have been gone along from the last one on, and a pass along the one before them
pub along_axes_back-next : (f : ℤ → ℤ → ℤ → ℤ → List ℤ) (axis d : ℕ) (old now passed : List ℤ) → 0 < axis → axis ≤ d → passed ≡ along f (4 ^ (axis - 1)) now
    → now ≡ along_axes_back f (4 ^ axis) (d - axis) old → passed ≡ along_axes_back f (4 ^ (axis - 1)) (d - (axis - 1)) old
along_axes_back-next f axis d old now passed some inside is before =
    let more : d - (axis - 1) ≡ suc (d - axis) = omega arith in
    let next : (axis - 1) + 1 ≡ axis = omega arith in
    let step : 4 ^ axis ≡ 4 * 4 ^ (axis - 1) = rw next at (step_next (axis - 1)) in
    rw more (is ∙ ap (along f (4 ^ (axis - 1))) (rw step at before))

pub length-along_axes : (f : ℤ → ℤ → ℤ → ℤ → List ℤ) (step d : ℕ) (block : List ℤ) → length (along_axes f step d block) ≡ length block
length-along_axes f step zero block = refl
length-along_axes f step (suc d) block = length-along_axes f (4 * step) d (along f step block) ∙ length-along f step block

pub length-along_axes_back : (f : ℤ → ℤ → ℤ → ℤ → List ℤ) (step d : ℕ) (block : List ℤ) → length (along_axes_back f step d block) ≡ length block
length-along_axes_back f step zero block = refl
length-along_axes_back f step (suc d) block = length-along f step (along_axes_back f (4 * step) d block) ∙ length-along_axes_back f (4 * step) d block
