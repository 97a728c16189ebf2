-- The Lorenzo transform and its inverse undo each other.
use Rattle.std.proofs.Common.{rules, ◌≡◌, refl, sym, ap, ◌∙◌, ℕ, zero, suc, ◌*◌, ◌/◌, ◌%◌, ◌^◌, ◌<◌, ℤ, pos, ◌*ℤ◌, FitsSigned, List, map, length, get_or, All, arith, []}
use Rattle.std.{proofs.Math.IntN.{*ℤ_comm}, proofs.lemmas.List.Elements.{All-get_or, All-map}}
use Rattle.std.specs.Int.{Width}
use mir.Val.{bits}
use Rattle.zf_spec.{specs.Numbers.{wrap, IsSameModulo}, specs.Grid.{upto}, proofs.Ring.{*ℤ_assoc}}
use Rattle.zf_spec.specs.Lorenzo.{signed_choose, plain_choose, weight, weighted_sum, lorenzo, unlorenzo}
use Rattle.zf_spec.proofs.Counting.{length-map-upto, get_or-map-upto, map-get_or-upto, from_places}
use Rattle.zf_spec.proofs.Wrapping.{same_modulo_mul, wrap_is_same, wrap_fits, wrap_only, same_modulo_sym}
use Rattle.zf_spec.proofs.Sums.{total, total_same, total_same_modulo, total-scale, total-scale_right, total_swap, total_fours, same_number, same_number-fours, one_term, weighted_sum-map}

-- ---- the weights along one axis

-- the weights of two maps along an axis of four, one after the other, are those of no map at all
abbrev pub Undoes : (ℕ → ℕ → ℤ) → (ℕ → ℕ → ℤ) → Type 0
Undoes f g = (m k : ℕ) → m < 4 → k < 4 → total (λ i. f m i *ℤ g i k) 0 4 ≡ same_number m k

-- sixteen equations at the numbers below 4
abbrev by_four : (ℕ → ℕ → ℤ) → List (List ℤ)
by_four h = map (λ m. map (h m) (upto 4)) (upto 4)

undoes_from : (f g : ℕ → ℕ → ℤ) → by_four (λ m k. total (λ i. f m i *ℤ g i k) 0 4) ≡ by_four same_number
    → Undoes f g
undoes_from f g e m k p l =
    let at : (h : ℕ → ℕ → ℤ) → get_or (get_or (by_four h) m []) k (pos 0) ≡ h m k = λ h. search (rules, get_or-map-upto) in
    cc (at (λ m k. total (λ i. f m i *ℤ g i k) 0 4), at same_number, e)

plain_undoes_signed : Undoes plain_choose signed_choose
plain_undoes_signed = undoes_from plain_choose signed_choose refl

signed_undoes_plain : Undoes signed_choose plain_choose
signed_undoes_plain = undoes_from signed_choose plain_choose refl

-- ---- the weights over all axes

-- two products of two, regrouped
regroup : (a b c d : ℤ) → (a *ℤ b) *ℤ (c *ℤ d) ≡ (a *ℤ c) *ℤ (b *ℤ d)
regroup a b c d = search (rules, *ℤ_assoc, *ℤ_comm)

pub weights_undo : (f g : ℕ → ℕ → ℤ) (d m k : ℕ) → Undoes f g → m < 4 ^ d → k < 4 ^ d → total (λ i. weight f d m i *ℤ weight g d i k) 0 (4 ^ d) ≡ same_number m k
weights_undo f g zero m k undoes p q = search (rules, same_number)
weights_undo f g (suc d) m k undoes p q =
    let count : 4 ^ suc d ≡ 4 * 4 ^ d = omega arith in
    let line : ℕ → ℤ = λ r. f (m % 4) r *ℤ g r (k % 4) in
    let others : ℕ → ℤ = λ a. weight f d (m / 4) a *ℤ weight g d a (k / 4) in
    let h : ℕ → ℕ → ℤ = λ r a. line r *ℤ others a in
    let first = undoes (m % 4) (k % 4) (omega arith) (omega arith) in
    let rest = weights_undo f g d (m / 4) (k / 4) undoes (omega arith) (omega arith) in
    total_same (λ i. weight f (suc d) m i *ℤ weight g (suc d) i k) (λ i. h (i % 4) (i / 4)) 0 (4 ^ suc d)
    (λ i _ _. regroup (f (m % 4) (i % 4)) (weight f d (m / 4) (i / 4)) (g (i % 4) (k % 4)) (weight g d (i / 4) (k / 4)))
    ∙ rw count (total_fours h 0 (4 ^ d))
    ∙ total_same (λ a. total (λ r. h r a) 0 4) (λ a. total line 0 4 *ℤ others a) 0 (4 ^ d) (λ a _ _. total-scale_right (others a) line 0 4)
    ∙ cc (total-scale (total line 0 4) others 0 (4 ^ d), same_number-fours m k)

-- ---- blocks

-- a block of wrapped sums with weights
abbrev transformed : (ℕ → ℕ → ℤ) → Width → ℕ → List ℤ → List ℤ
transformed f w d block = map (λ m. wrap w (weighted_sum (weight f d m) 0 block)) (upto (4 ^ d))

-- its sums, over the values of the block by place
sum_by_place : (f : ℕ → ℕ → ℤ) (d m : ℕ) (block : List ℤ) → length block ≡ 4 ^ d
    → weighted_sum (weight f d m) 0 block ≡ total (λ i. weight f d m i *ℤ get_or block i (pos 0)) 0 (4 ^ d)
sum_by_place f d m block l =
    ap (weighted_sum (weight f d m) 0) (sym (map-get_or-upto block (4 ^ d) (pos 0) l))
    ∙ weighted_sum-map (weight f d m) (λ i. get_or block i (pos 0)) 0 (4 ^ d)

-- the sums of the sums are the values
sum_of_sums : (f g : ℕ → ℕ → ℤ) (d m : ℕ) (b : ℕ → ℤ) → Undoes f g → m < 4 ^ d
    → total (λ i. weight f d m i *ℤ total (λ k. weight g d i k *ℤ b k) 0 (4 ^ d)) 0 (4 ^ d) ≡ b m
sum_of_sums f g d m b undoes h =
    let n = 4 ^ d in
    let both : ℕ → ℕ → ℤ = λ i k. weight f d m i *ℤ (weight g d i k *ℤ b k) in
    total_same (λ i. weight f d m i *ℤ total (λ k. weight g d i k *ℤ b k) 0 n) (λ i. total (both i) 0 n) 0 n (λ i _ _. sym (total-scale (weight f d m i) (λ k. weight g d i k *ℤ b k) 0 n))
    ∙ total_swap both 0 n 0 n
    ∙ total_same (λ k. total (λ i. both i k) 0 n) (λ k. same_number m k *ℤ b k) 0 n
    (λ k _ q.
    let parts = total_same (λ i. both i k) (λ i. (weight f d m i *ℤ weight g d i k) *ℤ b k) 0 n (λ i _ _. sym (*ℤ_assoc (weight f d m i) (weight g d i k) (b k))) in
    cc (total-scale_right (b k) (λ i. weight f d m i *ℤ weight g d i k) 0 n, weights_undo f g d m k undoes h (omega arith)))
    ∙ one_term m b 0 n (omega arith) (omega arith)

-- what is wrapped on the way changes nothing modulo 2^w
undone : (f g : ℕ → ℕ → ℤ) (w : Width) (d : ℕ) (block : List ℤ) → Undoes f g → length block ≡ 4 ^ d → All (λ v. FitsSigned w v) block
    → transformed f w d (transformed g w d block) ≡ block
undone f g w d block undoes l fits =
    let n = 4 ^ d in
    let inner = transformed g w d block in
    let length-inner = length-map-upto (λ m. wrap w (weighted_sum (weight g d m) 0 block)) n in
    let exact : ℕ → ℤ = λ i. total (λ k. weight g d i k *ℤ get_or block k (pos 0)) 0 n in
    let inner_at : (i : ℕ) → i < n → get_or inner i (pos 0) ≡ wrap w (exact i) = λ i h. search (rules, get_or-map-upto, sum_by_place) in
    from_places (λ m. wrap w (weighted_sum (weight f d m) 0 inner)) n (pos 0) block l
    (λ m h.
    let value = get_or block m (pos 0) in
    let sums = total (λ i. weight f d m i *ℤ wrap w (exact i)) 0 n in
    let same : IsSameModulo (bits w) sums value =
    rw (sum_of_sums f g d m (λ i. get_or block i (pos 0)) undoes h) at
    (total_same_modulo (bits w) (λ i. weight f d m i *ℤ wrap w (exact i)) (λ i. weight f d m i *ℤ exact i) 0 n
    (λ i. same_modulo_mul (bits w) (weight f d m i) (wrap w (exact i)) (exact i) (wrap_is_same w (exact i)))) in
    let fit = All-get_or (λ v. FitsSigned w v) block m (pos 0) (omega (arith, h, l)) fits in
    let parts = total_same (λ i. weight f d m i *ℤ get_or inner i (pos 0)) (λ i. weight f d m i *ℤ wrap w (exact i)) 0 n (λ i _ q. ap (λ x. weight f d m i *ℤ x) (inner_at i (omega arith))) in
    cc (wrap_only w sums value fit (same_modulo_sym (bits w) sums value same), sum_by_place f d m inner length-inner))

pub unlorenzo-lorenzo : (w : Width) (d : ℕ) (block : List ℤ) → length block ≡ 4 ^ d → All (λ v. FitsSigned w v) block → unlorenzo w d (lorenzo w d block) ≡ block
unfolding lorenzo unlorenzo
unlorenzo-lorenzo w d block l fits = undone plain_choose signed_choose w d block plain_undoes_signed l fits

pub lorenzo-unlorenzo : (w : Width) (d : ℕ) (block : List ℤ) → length block ≡ 4 ^ d → All (λ v. FitsSigned w v) block → lorenzo w d (unlorenzo w d block) ≡ block
unfolding lorenzo unlorenzo
lorenzo-unlorenzo w d block l fits = undone signed_choose plain_choose w d block signed_undoes_plain l fits

pub length-lorenzo : (w : Width) (d : ℕ) (block : List ℤ) → length (lorenzo w d block) ≡ 4 ^ d
unfolding lorenzo
length-lorenzo w d block = length-map-upto (λ m. wrap w (weighted_sum (weight signed_choose d m) 0 block)) (4 ^ d)

pub lorenzo_fits : (w : Width) (d : ℕ) (block : List ℤ) → All (λ v. FitsSigned w v) (lorenzo w d block)
unfolding lorenzo
lorenzo_fits w d block = All-map (λ v. FitsSigned w v) (λ m. wrap w (weighted_sum (weight signed_choose d m) 0 block)) (upto (4 ^ d)) (λ k e h. wrap_fits w (weighted_sum (weight signed_choose d (get_or (upto (4 ^ d)) k e)) 0 block))
