-- The sums of coefficients of which all but the first are zero: each is the first coefficient.
use Rattle.std.proofs.Common.{rules, ◌≡◌, refl, sym, ap, ◌∙◌, ℕ, zero, suc, ◌-◌, ◌/◌, ◌^◌, ◌≤◌, ℤ, pos, ◌+ℤ◌, ◌*ℤ◌, [], ◌∷◌, replicate, FitsSigned, arith}
use Rattle.std.{proofs.lemmas.Int.{ints}, proofs.lemmas.List.{length-replicate, get_or-replicate}}
use Rattle.std.{proofs.Math.IntN.{*ℤ-zero, +ℤ_idl, *ℤ_comm, *ℤ-one}, specs.Int.{Width}}
use Rattle.zf_spec.{specs.Numbers.{wrap}, specs.Grid.{IsDimension}, proofs.Counting.{from_places}}
use Rattle.zf_spec.specs.Lorenzo.{weight, weighted_sum, plain_choose, signed_choose, lorenzo, unlorenzo}
use Rattle.zf_spec.proofs.Wrapping.{wrap_value, zero_fits}
use Rattle.zf_axes.proofs.FirstAlone.{passes-first}
use Rattle.zf_lorenzo.{specs.Lines.{line_sums}, proofs.WeightedAxes.{along_axes-sums}}

-- the first coefficient weighs one everywhere
weight_of_first : (d m : ℕ) → weight plain_choose d m 0 ≡ pos 1
weight_of_first zero m = refl
weight_of_first (suc d) m = ap (λ n. pos 1 *ℤ n) (weight_of_first d (m / 4))

sum_of_zeros : (f : ℕ → ℤ) (k n : ℕ) → weighted_sum f k (replicate n (pos 0)) ≡ pos 0
sum_of_zeros f k zero = refl
sum_of_zeros f k (suc n) = ap (λ t. t +ℤ weighted_sum f (suc k) (replicate n (pos 0))) (*ℤ-zero (f k)) ∙ +ℤ_idl (weighted_sum f (suc k) (replicate n (pos 0))) ∙ sum_of_zeros f (suc k) n

sum_of_first : (d m n : ℕ) (v : ℤ) → weighted_sum (weight plain_choose d m) 0 (v ∷ replicate n (pos 0)) ≡ v
unfolding lib.IntN.one
sum_of_first d m n v = search (rules, sum_of_zeros, weight_of_first, *ℤ_comm, *ℤ-one, ints)

pub unlorenzo-first : (w : Width) (d : ℕ) (v : ℤ) → FitsSigned w v → unlorenzo w d (v ∷ replicate (4 ^ d - 1) (pos 0)) ≡ replicate (4 ^ d) v
unfolding unlorenzo
unlorenzo-first w d v fits =
    let sums : ℕ → ℤ = λ m. wrap w (weighted_sum (weight plain_choose d m) 0 (v ∷ replicate (4 ^ d - 1) (pos 0))) in
    from_places sums (4 ^ d) (pos 0) (replicate (4 ^ d) v) (length-replicate (4 ^ d) v)
    (λ k below. get_or-replicate (4 ^ d) k v (pos 0) below ∙ sym (ap (wrap w) (sum_of_first d k (4 ^ d - 1) v) ∙ wrap_value w v fits))

-- and so the values of zeros are zeros
pub unlorenzo-zeros : (w : Width) (d : ℕ) → unlorenzo w d (pos 0 ∷ replicate (4 ^ d - 1) (pos 0)) ≡ replicate (4 ^ d) (pos 0)
unlorenzo-zeros w d = unlorenzo-first w d (pos 0) (zero_fits w)

-- the way there: the differences of one value are zero
differences_of_same : (w : Width) (v : ℤ) → FitsSigned w v → line_sums w signed_choose v v v v ≡ v ∷ pos 0 ∷ pos 0 ∷ pos 0 ∷ []
differences_of_same w v fits =
    let sum : ℕ → ℤ = λ m. weighted_sum (signed_choose m) 0 (v ∷ v ∷ v ∷ v ∷ []) in
    let first : wrap w (sum 0) ≡ v = ap (wrap w) (omega (arith, ints)) ∙ wrap_value w v fits in
    let none : wrap w (pos 0) ≡ pos 0 = wrap_value w (pos 0) (zero_fits w) in
    let second : wrap w (sum 1) ≡ pos 0 = ap (wrap w) (omega (arith, ints)) ∙ none in
    let third : wrap w (sum 2) ≡ pos 0 = ap (wrap w) (omega (arith, ints)) ∙ none in
    let fourth : wrap w (sum 3) ≡ pos 0 = ap (wrap w) (omega (arith, ints)) ∙ none in search rules

pub lorenzo-same : (w : Width) (d : ℕ) (v : ℤ) → 1 ≤ d → FitsSigned w v → lorenzo w d (replicate (4 ^ d) v) ≡ v ∷ replicate (4 ^ d - 1) (pos 0)
unfolding lorenzo
lorenzo-same w d v some fits =
    sym (along_axes-sums w signed_choose d (replicate (4 ^ d) v) some (length-replicate (4 ^ d) v))
    ∙ passes-first (line_sums w signed_choose) v d (differences_of_same w v fits) (differences_of_same w (pos 0) (zero_fits w))

-- and so the coefficients of zeros are zeros
pub lorenzo-zeros : (w : Width) (d : ℕ) → IsDimension d → lorenzo w d (replicate (4 ^ d) (pos 0)) ≡ pos 0 ∷ replicate (4 ^ d - 1) (pos 0)
lorenzo-zeros w d dims = lorenzo-same w d (pos 0) dims.0 (zero_fits w)
