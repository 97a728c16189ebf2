-- Sums of whole numbers over the numbers from one number on.
use Rattle.std.proofs.Common.{rules, ◌≡◌, refl, sym, ap, ◌∙◌, ℕ, zero, suc, ◌+◌, ◌*◌, ◌/◌, ◌%◌, ◌<◌, ◌≤◌, cond, eqb, eq-eqb, ne_eqb, ℤ, pos, ◌+ℤ◌, ◌*ℤ◌, map, arith}
use Rattle.std.{proofs.Math.IntN.{zero-*ℤ, *ℤ-zero, +ℤ_idl}, proofs.lemmas.Bool.{cases_eq}}
use Rattle.std.proofs.lemmas.Int.{ints}
use Rattle.zf_spec.{specs.Numbers.{IsSameModulo}, specs.Grid.{count_from}, specs.Lorenzo.{weighted_sum}}
use Rattle.zf_spec.{proofs.Ring.{add-*ℤ, *ℤ-add}, proofs.Wrapping.{same_modulo_refl, same_modulo_add}}

-- the sum of f at the numbers from k on, n of them
abbrev pub total : (ℕ → ℤ) → ℕ → ℕ → ℤ
total f k zero = pos 0
total f k (suc n) = f k +ℤ total f (suc k) n

pub total_same : (f g : ℕ → ℤ) (k n : ℕ) → ((i : ℕ) → k ≤ i → i < k + n → f i ≡ g i) → total f k n ≡ total g k n
total_same f g k zero h = refl
total_same f g k (suc n) h =
    cc (h k (omega arith) (omega arith), total_same f g (suc k) n (λ i p q. h i (omega arith) (omega arith)))

pub total_same_modulo : (m : ℕ) (f g : ℕ → ℤ) (k n : ℕ) → ((i : ℕ) → IsSameModulo m (f i) (g i)) → IsSameModulo m (total f k n) (total g k n)
total_same_modulo m f g k zero h = same_modulo_refl m (pos 0)
total_same_modulo m f g k (suc n) h = same_modulo_add m (f k) (g k) (total f (suc k) n) (total g (suc k) n) (h k) (total_same_modulo m f g (suc k) n h)

pub total-zero : (k n : ℕ) → total (λ i. pos 0) k n ≡ pos 0
total-zero k zero = refl
total-zero k (suc n) = +ℤ_idl (total (λ i. pos 0) (suc k) n) ∙ total-zero (suc k) n

pub total-sum : (f g : ℕ → ℤ) (k n : ℕ) → total (λ i. f i +ℤ g i) k n ≡ total f k n +ℤ total g k n
total-sum f g k zero = refl
total-sum f g k (suc n) = let rest = total-sum f g (suc k) n in omega (arith, ints)

pub total-scale : (c : ℤ) (f : ℕ → ℤ) (k n : ℕ) → total (λ i. c *ℤ f i) k n ≡ c *ℤ total f k n
total-scale c f k zero = sym (*ℤ-zero c)
total-scale c f k (suc n) = ap (λ x. c *ℤ f k +ℤ x) (total-scale c f (suc k) n) ∙ sym (*ℤ-add c (f k) (total f (suc k) n))

pub total-scale_right : (c : ℤ) (f : ℕ → ℤ) (k n : ℕ) → total (λ i. f i *ℤ c) k n ≡ total f k n *ℤ c
total-scale_right c f k zero = sym (zero-*ℤ c)
total-scale_right c f k (suc n) = ap (λ x. f k *ℤ c +ℤ x) (total-scale_right c f (suc k) n) ∙ sym (add-*ℤ (f k) (total f (suc k) n) c)

-- the order of two sums is free
pub total_swap : (f : ℕ → ℕ → ℤ) (j m k n : ℕ) → total (λ a. total (f a) k n) j m ≡ total (λ b. total (λ a. f a b) j m) k n
total_swap f j zero k n = sym (total-zero k n)
total_swap f j (suc m) k n = ap (λ x. total (f j) k n +ℤ x) (total_swap f (suc j) m k n) ∙ sym (total-sum (f j) (λ b. total (λ a. f a b) (suc j) m) k n)

-- four times n terms, four at a time
pub total_fours : (h : ℕ → ℕ → ℤ) (k n : ℕ) → total (λ i. h (i % 4) (i / 4)) (4 * k) (4 * n) ≡ total (λ q. total (λ r. h r q) 0 4) k n
total_fours h k zero = refl
total_fours h k (suc n) =
    let f : ℕ → ℤ = λ i. h (i % 4) (i / 4) in
    let count : 4 * suc n ≡ suc (suc (suc (suc (4 * n)))) = omega arith in
    let from : suc (suc (suc (suc (4 * k)))) ≡ 4 * suc k = omega arith in
    let at : (r i : ℕ) → r < 4 → i ≡ 4 * k + r → f i ≡ h r k = search rules in
    let a = at 0 (4 * k) (omega arith) (omega arith) in
    let b = at 1 (suc (4 * k)) (omega arith) (omega arith) in
    let c = at 2 (suc (suc (4 * k))) (omega arith) (omega arith) in
    let d = at 3 (suc (suc (suc (4 * k)))) (omega arith) (omega arith) in
    let rest = total_fours h (suc k) n in
    rw (count, from) (omega (arith, ints))

-- ---- the number that is one where two numbers are equal, and else zero

abbrev pub same_number : ℕ → ℕ → ℤ
same_number m k = cond (eqb m k) (pos 1) (pos 0)

same_number-yes : (m k : ℕ) → m ≡ k → same_number m k ≡ pos 1
same_number-yes m k e = ap (λ t. cond t (pos 1) (pos 0)) (eq-eqb m k e)

same_number-no : (m k : ℕ) → (m ≡ k → ⊥) → same_number m k ≡ pos 0
same_number-no m k h = ap (λ t. cond t (pos 1) (pos 0)) (ne_eqb m k h)

-- two numbers are equal where their digits in base 4 are
pub same_number-fours : (m k : ℕ) → same_number (m % 4) (k % 4) *ℤ same_number (m / 4) (k / 4) ≡ same_number m k
same_number-fours m k = search (rules, same_number-yes, same_number-no, *ℤ-zero, cases_eq, zero-*ℤ)

-- of a sum with these weights one term is left
one_term_none : (m : ℕ) (b : ℕ → ℤ) (k n : ℕ) → m < k → total (λ i. same_number m i *ℤ b i) k n ≡ pos 0
one_term_none m b k zero h = refl
one_term_none m b k (suc n) h =
    let rest = one_term_none m b (suc k) n (omega arith) in
    rw (same_number-no m k (λ e. omega arith)) (omega (arith, ints, zero-*ℤ (b k)))

pub one_term : (m : ℕ) (b : ℕ → ℤ) (k n : ℕ) → k ≤ m → m < k + n → total (λ i. same_number m i *ℤ b i) k n ≡ b m
one_term m b k zero l h = absurd (omega arith)
one_term m b k (suc n) l h =
    let next = one_term m b (suc k) n in search (rules, cases_eq, one_term_none, same_number-yes, same_number-no, zero-*ℤ)

-- ---- the sum of values with weights is such a sum

pub weighted_sum-map : (f : ℕ → ℤ) (g : ℕ → ℤ) (k n : ℕ) → weighted_sum f k (map g (count_from k n)) ≡ total (λ i. f i *ℤ g i) k n
weighted_sum-map f g k zero = refl
weighted_sum-map f g k (suc n) = ap (λ x. f k *ℤ g k +ℤ x) (weighted_sum-map f g (suc k) n)
