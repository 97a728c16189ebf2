-- A line of which all coefficients but the first are zero: it becomes four values that are the first.
use Rattle.std.proofs.Common.{◌≡◌, ◌⊎◌, ⊎_elim, ◌↔◌, refl, sym, ap, subst, ◌∙◌, ℤ, pos, negsuc, ℕ, ◌+◌, ◌*◌, ◌+ℤ◌, ◌-ℤ◌, ◌*ℤ◌, ◌-◌, ◌/◌, ◌^◌, [], ◌∷◌, replicate, FitsSigned, arith, rules}
use Rattle.std.{proofs.lemmas.Int.{ints}, specs.Int.{Width, w32, w64}}
use mir.Val.{bits, hbits}
use Rattle.zf_spec.{specs.Numbers.{wrap, half, floor_half, IsSameModulo}, specs.Lift.{lift_line, unlift_line, lift, unlift}}
use Rattle.zf_spec.proofs.Wrapping.{wrap_value, wrap_fits, wrap_only, wrap_is_same, zero_fits, same_modulo_sym}
use Rattle.zf_axes.proofs.FirstAlone.{passes-first, passes_back-first}

-- twice a value less the value is the value, wrapped or not
twice_less : (w : Width) (v : ℤ) → FitsSigned w v → wrap w (wrap w (pos 2 *ℤ v) -ℤ v) ≡ v
twice_less w v fits =
    let double = pos 2 *ℤ v in
    let wrapped = wrap w double in
    let same : IsSameModulo (bits w) wrapped double = wrap_is_same w double in
    let less : IsSameModulo (bits w) (wrapped -ℤ v) v = (same.0, omega (arith, ints, same.1)) in
    sym (wrap_only w (wrapped -ℤ v) v fits (same_modulo_sym (bits w) (wrapped -ℤ v) v less))

pub unlift_line-first : (w : Width) (v : ℤ) → FitsSigned w v → unlift_line w v (pos 0) (pos 0) (pos 0) ≡ v ∷ v ∷ v ∷ v ∷ []
unlift_line-first w v fits =
    let zero = wrap_value w (pos 0) (zero_fits w) in
    let twice = twice_less w v fits in
    let plain : wrap w (pos 0 +ℤ v) ≡ v = ap (wrap w) (omega (arith, ints)) ∙ wrap_value w v fits in
    simp (zero, plain, twice) refl

-- and so the values of zeros are zeros
pub unlift-zeros : (w : Width) (d : ℕ) → unlift w d (pos 0 ∷ replicate (4 ^ d - 1) (pos 0)) ≡ replicate (4 ^ d) (pos 0)
unlift-zeros w d = let line = unlift_line-first w (pos 0) (zero_fits w) in passes_back-first (unlift_line w) (pos 0) d line line

-- the way there: a line of one value, of which twice is no overflow
pub lift_line-same : (w : Width) (v : ℤ) → half w (v +ℤ v) ≡ v → lift_line w v v v v ≡ v ∷ pos 0 ∷ pos 0 ∷ pos 0 ∷ []
lift_line-same w v twice =
    let zero = wrap_value w (pos 0) (zero_fits w) in search rules

-- and so the coefficients of zeros are zeros
pub lift-zeros : (w : Width) (d : ℕ) → lift w d (replicate (4 ^ d) (pos 0)) ≡ pos 0 ∷ replicate (4 ^ d - 1) (pos 0)
lift-zeros w d =
    let none : half w (pos 0 +ℤ pos 0) ≡ pos 0 = ap floor_half (wrap_value w (pos 0) (zero_fits w)) in
    let line = lift_line-same w (pos 0) none in
    passes-first (lift_line w) (pos 0) d line line

-- twice the half of a value is a value: the value itself or one less, and the least value is even
twice_half_fits : (w : Width) (h : ℕ) → 2 ^ hbits w ≡ 2 * h → (u : ℤ) → FitsSigned w u → FitsSigned w (pos 2 *ℤ floor_half u)
twice_half_fits w h e (pos n) fits = record { sfits = omega (arith, fits.sfits) }
twice_half_fits w h e (negsuc n) fits =
    let twice : negsuc (2 * (n / 2) + 1) ≡ pos 2 *ℤ negsuc (n / 2) = omega (arith, ints) in
    subst (FitsSigned w) twice (record { sfits = omega (arith, fits.sfits) })

half_of_twice : (v : ℤ) → floor_half (pos 2 *ℤ v) ≡ v
half_of_twice (pos n) = ap pos (omega arith)
half_of_twice (negsuc n) = let twice : pos 2 *ℤ negsuc n ≡ negsuc (2 * n + 1) = omega (arith, ints) in ap floor_half twice ∙ ap negsuc (omega arith)

-- the half of a wrapped double is the value exactly where the double is not wrapped
pub keeps_exactly : (w : Width) → (w ≡ w32) ⊎ (w ≡ w64) → (v : ℤ) → (half w (v +ℤ v) ≡ v) ↔ FitsSigned w (pos 2 *ℤ v)
keeps_exactly w sized v =
    let double : v +ℤ v ≡ pos 2 *ℤ v = omega (arith, ints) in
    let even : (h : ℕ) × (2 ^ hbits w ≡ 2 * h) = ⊎_elim (λ e. (2 ^ 30, ap (λ n. 2 ^ hbits n) e)) (λ e. (2 ^ 62, ap (λ n. 2 ^ hbits n) e)) sized in (
      λ same. subst (λ u. FitsSigned w (pos 2 *ℤ u)) same (twice_half_fits w even.0 even.1 (wrap w (v +ℤ v)) (wrap_fits w (v +ℤ v))),
      λ fits. ap (half w) double ∙ ap floor_half (wrap_value w (pos 2 *ℤ v) fits) ∙ half_of_twice v,
    )
