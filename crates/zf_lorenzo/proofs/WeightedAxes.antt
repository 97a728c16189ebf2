-- Passes along all axes are one weighted sum over the block.
use Rattle.std.proofs.Common.{rules, ◌≡◌, ℕ, zero, suc, ◌+◌, ◌-◌, ◌*◌, ◌/◌, ◌%◌, ◌^◌, ◌<◌, ◌≤◌, ℤ, pos, ◌*ℤ◌, List, All, length, map, get_or, sym, ap, subst, ◌∙◌, arith, FitsSigned}
use Rattle.std.{proofs.lemmas.Int.{ints}, proofs.lemmas.List.{ext_get_or}, proofs.lemmas.Nat.{div-mul-add}}
use Rattle.std.{proofs.lemmas.List.Elements.{All-get_or, All-map}, proofs.Math.IntN.{*ℤ_comm, *ℤ-one}}
use Rattle.std.{proofs.Math.Nat.{pow-suc, mul-le-mul_left}, specs.Int.{Width}}
use mir.Val.{bits}
use Rattle.zf_spec.{specs.Numbers.{wrap, IsSameModulo}, specs.Grid.{upto, places}, proofs.Ring.{*ℤ_assoc}}
use Rattle.zf_spec.{specs.Lift.{line_value, along, along_axes}, specs.Lorenzo.{weight, weighted_sum}}
use Rattle.zf_spec.proofs.Sums.{total, total_same, total_same_modulo, total-scale, total_fours, weighted_sum-map}
use Rattle.zf_spec.proofs.Wrapping.{same_modulo_refl, same_modulo_mul, same_modulo_trans, wrap_is_same, wrap_fits, wrap_only}
use Rattle.zf_spec.proofs.Counting.{length-map-upto, get_or-map-upto, map-get_or-upto}
use Rattle.zf_axes.{proofs.LineByLine.{length-along, get_or-along}, proofs.AxisByAxis.{length-along_axes}}
use Rattle.zf_lorenzo.specs.Lines.{line_sums}

-- ---- one pass

-- the sum, with the weights at index m, over the line whose places are `offset` away from the multiples 4 * j up to 4 * j + 3 of the step
abbrev line_sum : (ℕ → ℕ → ℤ) → ℕ → ℕ → ℕ → ℕ → List ℤ → ℤ
line_sum axis m step offset j block = total (λ r. axis m r *ℤ get_or block (offset + step * (4 * j + r)) (pos 0)) 0 4

-- what a pass makes of the place at index m of that line
along_at_line : (n : Width) (axis : ℕ → ℕ → ℤ) (step offset m j : ℕ) (block : List ℤ) → 0 < step → offset < step → m < 4 → (offset + step * m) + (4 * step) * j < length block
    → get_or (along (line_sums n axis) step block) ((offset + step * m) + (4 * step) * j) (pos 0) ≡ wrap n (line_sum axis m step offset j block)
along_at_line n axis step offset m j block some inside small below =
    let p = (offset + step * m) + (4 * step) * j in
    let split : p ≡ (m + 4 * j) * step + offset = omega arith in
    let quotient : p / step ≡ m + 4 * j = ap (λ k. k / step) split ∙ div-mul-add (m + 4 * j) step offset inside in
    let index : p / step % 4 ≡ m = omega arith in
    let sums : ℕ → ℕ → ℤ = λ k first. wrap n (total (λ r. axis k r *ℤ get_or block (first + step * r) (pos 0)) 0 4) in
    let start : p - step * (p / step % 4) ≡ offset + step * (4 * j) = ap (λ k. p - step * k) index ∙ omega arith in
    get_or-along (line_sums n axis) step block p below
    ∙ get_or-map-upto (λ k. sums k (p - step * (p / step % 4))) 4 (p / step % 4) (pos 0) (omega arith)
    ∙ ap (λ k. sums k (p - step * (p / step % 4))) index
    ∙ ap (sums m) start
    ∙ ap (wrap n) (total_same (λ r. axis m r *ℤ get_or block (offset + step * (4 * j) + step * r) (pos 0)) (λ r. axis m r *ℤ get_or block (offset + step * (4 * j + r)) (pos 0)) 0 4
    (λ r _ _. ap (λ q. axis m r *ℤ get_or block q (pos 0)) (omega arith)))

-- ---- all axes

-- the sum over d axes at quotient q, of the values at the places that are `offset` away from a multiple of the step
abbrev axes_sum : (ℕ → ℕ → ℤ) → ℕ → ℕ → ℕ → ℕ → List ℤ → ℤ
axes_sum axis step d offset q block = total (λ j. weight axis d q j *ℤ get_or block (offset + step * j) (pos 0)) 0 (4 ^ d)

-- one axis more: the sum over all places is the sum, with the weights of the other axes, of the sums of lines
axes_sum-lines : (axis : ℕ → ℕ → ℤ) (step d offset q : ℕ) (block : List ℤ)
    → axes_sum axis step (suc d) offset q block ≡ total (λ j. weight axis d (q / 4) j *ℤ line_sum axis (q % 4) step offset j block) 0 (4 ^ d)
axes_sum-lines axis step d offset q block =
    let at : ℕ → ℤ = λ m. get_or block (offset + step * m) (pos 0) in
    let others : ℕ → ℤ = λ j. weight axis d (q / 4) j in
    let terms : ℕ → ℕ → ℤ = λ r j. (axis (q % 4) r *ℤ others j) *ℤ at (4 * j + r) in
    let count : 4 ^ suc d ≡ 4 * 4 ^ d = omega (arith, pow-suc 4 d) in
    total_same (λ m. weight axis (suc d) q m *ℤ at m) (λ m. terms (m % 4) (m / 4)) 0 (4 ^ suc d)
    (λ m _ _. ap (λ k. weight axis (suc d) q m *ℤ at k) (omega arith))
    ∙ ap (total (λ m. terms (m % 4) (m / 4)) 0) count
    ∙ total_fours terms 0 (4 ^ d)
    ∙ total_same (λ j. total (λ r. terms r j) 0 4) (λ j. others j *ℤ line_sum axis (q % 4) step offset j block) 0 (4 ^ d)
    (λ j _ _.
    total_same (λ r. terms r j) (λ r. others j *ℤ (axis (q % 4) r *ℤ at (4 * j + r))) 0 4
    (λ r _ _. ap (λ v. v *ℤ at (4 * j + r)) (*ℤ_comm (axis (q % 4) r) (others j)) ∙ *ℤ_assoc (others j) (axis (q % 4) r) (at (4 * j + r)))
    ∙ total-scale (others j) (λ r. axis (q % 4) r *ℤ at (4 * j + r)) 0 4)

along_axes_is : (n : Width) (axis : ℕ → ℕ → ℤ) (step d offset q : ℕ) (block : List ℤ) → 0 < step → offset < step → q < 4 ^ d → length block ≡ step * 4 ^ d
    → IsSameModulo (bits n) (get_or (along_axes (line_sums n axis) step d block) (offset + step * q) (pos 0)) (axes_sum axis step d offset q block)
along_axes_is n axis step zero offset q block some inside below size =
    let none : q ≡ 0 = omega arith in
    let at : ℕ → ℤ = λ k. get_or block (offset + step * k) (pos 0) in
    let one : at q ≡ axes_sum axis step 0 offset q block = ap at none ∙ omega (arith, ints, *ℤ_comm (pos 1) (at 0), *ℤ-one (at 0)) in
    subst (IsSameModulo (bits n) (at q)) one (same_modulo_refl (bits n) (at q))
along_axes_is n axis step (suc d) offset q block some inside below size =
    let m = q % 4 in
    let others = q / 4 in
    let block1 = along (line_sums n axis) step block in
    let power : 4 ^ suc d ≡ 4 * 4 ^ d = omega (arith, pow-suc 4 d) in
    let wide : step * 4 ^ suc d ≡ (4 * step) * 4 ^ d = ap (λ k. step * k) power ∙ omega arith in
    let split : q ≡ 4 * others + m = omega arith in
    let place : offset + step * q ≡ (offset + step * m) + (4 * step) * others = ap (λ k. offset + step * k) split ∙ omega arith in
    let small : m ≤ 3 = omega arith in
    let most = mul-le-mul_left step small in
    let size1 : length block1 ≡ (4 * step) * 4 ^ d = length-along (line_sums n axis) step block ∙ size ∙ wide in
    let rest = along_axes_is n axis (4 * step) d (offset + step * m) others block1 (omega arith) (omega arith) (omega arith) size1 in
    let lines : ℕ → ℤ = λ j. line_sum axis m step offset j block in
    let sums : axes_sum axis (4 * step) d (offset + step * m) others block1 ≡ total (λ j. weight axis d others j *ℤ wrap n (lines j)) 0 (4 ^ d) =
    total_same (λ j. weight axis d others j *ℤ get_or block1 ((offset + step * m) + (4 * step) * j) (pos 0)) (λ j. weight axis d others j *ℤ wrap n (lines j)) 0 (4 ^ d)
    (λ j _ inside'.
    let last = mul-le-mul_left (4 * step) inside' in
    ap (λ v. weight axis d others j *ℤ v) (along_at_line n axis step offset m j block some inside (omega arith) (omega arith))) in
    let exact : IsSameModulo (bits n) (total (λ j. weight axis d others j *ℤ wrap n (lines j)) 0 (4 ^ d)) (total (λ j. weight axis d others j *ℤ lines j) 0 (4 ^ d)) =
    search (rules, total_same_modulo, same_modulo_mul, wrap_is_same) in
    rw (place, axes_sum-lines axis step d offset q block) (same_modulo_trans (bits n) _ _ _ (rw sums at rest) exact)

-- ---- the wrapped sums over the whole block

along_fits : (n : Width) (axis : ℕ → ℕ → ℤ) (step : ℕ) (block : List ℤ) → All (λ v. FitsSigned n v) (along (line_sums n axis) step block)
unfolding along
along_fits n axis step block = All-map (λ v. FitsSigned n v) (line_value (line_sums n axis) step block) (upto (length block)) (λ k e inside. value (get_or (upto (length block)) k e))
  where
    value : (p : ℕ) → FitsSigned n (line_value (line_sums n axis) step block p)
    value p =
        let sums : ℕ → ℤ = λ m. wrap n (total (λ r. axis m r *ℤ get_or block (p - step * (p / step % 4) + step * r) (pos 0)) 0 4) in
        subst (FitsSigned n) (sym (get_or-map-upto sums 4 (p / step % 4) (pos 0) (omega arith))) (wrap_fits n _)

along_axes_fits : (n : Width) (axis : ℕ → ℕ → ℤ) (step d : ℕ) (block : List ℤ) → All (λ v. FitsSigned n v) block → All (λ v. FitsSigned n v) (along_axes (line_sums n axis) step d block)
along_axes_fits n axis step zero block fits = fits
along_axes_fits n axis step (suc d) block fits = along_axes_fits n axis (4 * step) d (along (line_sums n axis) step block) (along_fits n axis step block)

-- the sum of the definitions is the sum over d axes, of all places
axes_sum-all : (axis : ℕ → ℕ → ℤ) (d m : ℕ) (block : List ℤ) → length block ≡ 4 ^ d → axes_sum axis 1 d 0 m block ≡ weighted_sum (weight axis d m) 0 block
axes_sum-all axis d m block size =
    total_same (λ j. weight axis d m j *ℤ get_or block (0 + 1 * j) (pos 0)) (λ j. weight axis d m j *ℤ get_or block j (pos 0)) 0 (4 ^ d)
    (λ j _ _. ap (λ p. weight axis d m j *ℤ get_or block p (pos 0)) (omega arith))
    ∙ sym (weighted_sum-map (weight axis d m) (λ j. get_or block j (pos 0)) 0 (4 ^ d))
    ∙ ap (weighted_sum (weight axis d m) 0) (map-get_or-upto block (4 ^ d) (pos 0) size)

-- passes along d axes make the weighted sums over the block
pub along_axes-sums : (n : Width) (axis : ℕ → ℕ → ℤ) (d : ℕ) (block : List ℤ) → 1 ≤ d → length block ≡ 4 ^ d
    → along_axes (line_sums n axis) 1 d block ≡ map (λ m. wrap n (weighted_sum (weight axis d m) 0 block)) (places d)
along_axes-sums n axis zero block some size = absurd (omega arith)
along_axes-sums n axis (suc d) block some size =
    let passed = along_axes (line_sums n axis) 1 (suc d) block in
    let sums : ℕ → ℤ = λ m. wrap n (weighted_sum (weight axis (suc d) m) 0 block) in
    let long : length passed ≡ 4 ^ suc d = length-along_axes (line_sums n axis) 1 (suc d) block ∙ size in
    let fits = along_axes_fits n axis 4 d (along (line_sums n axis) 1 block) (along_fits n axis 1 block) in
    ext_get_or (pos 0) passed (map sums (places (suc d))) (long ∙ sym (length-map-upto sums (4 ^ suc d)))
    (λ p inside.
    let below : p < 4 ^ suc d = omega arith in
    let place : 0 + 1 * p ≡ p = omega arith in
    let same = rw (place, axes_sum-all axis (suc d) p block size) at (along_axes_is n axis 1 (suc d) 0 p block (omega arith) (omega arith) below (omega arith)) in
    wrap_only n (weighted_sum (weight axis (suc d) p) 0 block) (get_or passed p (pos 0)) (All-get_or (λ v. FitsSigned n v) passed p (pos 0) inside fits) same
    ∙ sym (get_or-map-upto sums (4 ^ suc d) p (pos 0) below))
