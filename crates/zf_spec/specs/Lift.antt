-- The lossy transform of a block (zfp 1.0 documentation, chapter Algorithm).
--     Each sum, difference and doubling is wrapped, which is this project's own choice. The inverse does not undo the forward.
use Rattle.std.specs.Prelude.{ℕ, suc, zero, ◌+◌, ◌-◌, ◌*◌, ◌/◌, ◌%◌, ℤ, pos, ◌+ℤ◌, ◌-ℤ◌, ◌*ℤ◌, List, [], ◌∷◌, map, length, slice_index_or}
use Rattle.std.specs.Int.{Width}
use Rattle.zf_spec.specs.Numbers.{wrap, half}
use Rattle.zf_spec.specs.Grid.{upto}

-- the four values of a line become four coefficients
abbrev pub lift_line : Width → ℤ → ℤ → ℤ → ℤ → List ℤ
lift_line n x y z w =
    let x1 = half n (x +ℤ w) in
    let w1 = wrap n (w -ℤ x1) in
    let z1 = half n (z +ℤ y) in
    let y1 = wrap n (y -ℤ z1) in
    let x2 = half n (x1 +ℤ z1) in
    let z2 = wrap n (z1 -ℤ x2) in
    let w2 = half n (w1 +ℤ y1) in
    let y2 = wrap n (y1 -ℤ w2) in
    let w3 = wrap n (w2 +ℤ half n y2) in
    let y3 = wrap n (y2 -ℤ half n w3) in
    x2 ∷ y3 ∷ z2 ∷ w3 ∷ []

-- and back
abbrev pub unlift_line : Width → ℤ → ℤ → ℤ → ℤ → List ℤ
unlift_line n x y z w =
    let y1 = wrap n (y +ℤ half n w) in
    let w1 = wrap n (w -ℤ half n y1) in
    let y2 = wrap n (y1 +ℤ w1) in
    let w2 = wrap n (wrap n (pos 2 *ℤ w1) -ℤ y2) in
    let z1 = wrap n (z +ℤ x) in
    let x1 = wrap n (wrap n (pos 2 *ℤ x) -ℤ z1) in
    let y3 = wrap n (y2 +ℤ z1) in
    let z2 = wrap n (wrap n (pos 2 *ℤ z1) -ℤ y3) in
    let w3 = wrap n (w2 +ℤ x1) in
    let x2 = wrap n (wrap n (pos 2 *ℤ x1) -ℤ w3) in
    x2 ∷ y3 ∷ z2 ∷ w3 ∷ []

-- the value at place p of what a map of lines makes of its line, along the axis whose neighbours are step
-- places apart
abbrev pub line_value : (ℤ → ℤ → ℤ → ℤ → List ℤ) → ℕ → List ℤ → ℕ → ℤ
line_value f step block p =
    let i = p / step % 4 in
    let value = λ (k : ℕ). slice_index_or block (p - step * i + step * k) (pos 0) in
    slice_index_or (f (value 0) (value 1) (value 2) (value 3)) i (pos 0)

-- a map of lines at all lines of a block along one axis
unfoldable pub along : (ℤ → ℤ → ℤ → ℤ → List ℤ) → ℕ → List ℤ → List ℤ
along f step block = map (line_value f step block) (upto (length block))

-- along d axes, the first of this step and each of four times the step before
abbrev pub along_axes : (ℤ → ℤ → ℤ → ℤ → List ℤ) → ℕ → ℕ → List ℤ → List ℤ
along_axes f step zero block = block
along_axes f step (suc d) block = along_axes f (4 * step) d (along f step block)

-- the same axes, the last one first
abbrev pub along_axes_back : (ℤ → ℤ → ℤ → ℤ → List ℤ) → ℕ → ℕ → List ℤ → List ℤ
along_axes_back f step zero block = block
along_axes_back f step (suc d) block = along f step (along_axes_back f (4 * step) d block)

-- along x, then y, z and w of the axes in use
abbrev pub lift : Width → ℕ → List ℤ → List ℤ
lift n d block = along_axes (lift_line n) 1 d block

-- back, in reverse order of axes
abbrev pub unlift : Width → ℕ → List ℤ → List ℤ
unlift n d block = along_axes_back (unlift_line n) 1 d block
