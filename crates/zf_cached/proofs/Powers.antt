-- The least power of two that passes a test.
use Rattle.std.proofs.Common.{◌≡◌, refl, ap, ◌∙◌, ℕ, zero, suc, ◌+◌, ◌*◌, ◌^◌, ◌≤◌, Bool, true, false, ⊎_elim, pow-suc, leb, leb-true, le-leb, arith}
use Rattle.std.{proofs.Math.Pow.{pow_mono, pow_pos}, proofs.lemmas.Bool.{cases_eq}}
use Rattle.zf_cached.specs.Changes.{first_doubled, raised, default_lines}
use Rattle.zf_cached.proofs.Caching.{true_is_not_false}

by_test : (test : ℕ → Bool) (n m : ℕ) (P : ℕ → Type 0) → (test (2 ^ m) ≡ true → P (2 ^ m)) → (test (2 ^ m) ≡ false → P (first_doubled test n (2 ^ suc m))) → P (first_doubled test (suc n) (2 ^ m))
by_test test n m P passed failed = grind (arith, pow-suc 2 m)

-- it is a power of two
first_doubled-power : (test : ℕ → Bool) (n m : ℕ) → (k : ℕ) × (first_doubled test n (2 ^ m) ≡ 2 ^ k)
first_doubled-power test zero m = (m, refl)
first_doubled-power test (suc n) m = let rest = first_doubled-power test n (suc m) in by_test test n m (λ q. (k : ℕ) × (q ≡ 2 ^ k)) (λ t. (m, refl)) (λ f. rest)

-- it passes the test, where the last one does
first_doubled-passes : (test : ℕ → Bool) (n m : ℕ) → test (2 ^ (n + m)) ≡ true → test (first_doubled test n (2 ^ m)) ≡ true
first_doubled-passes test zero m last = let e : m ≡ zero + m = omega arith in ap (λ k. test (2 ^ k)) e ∙ last
first_doubled-passes test (suc n) m last =
    grind (arith, first_doubled-passes test n (suc m) (ap (λ k. test (2 ^ k)) (omega arith) ∙ last))

-- and none before it does
first_doubled-least : (test : ℕ → Bool) (n m j : ℕ) → m ≤ j → test (2 ^ j) ≡ true → first_doubled test n (2 ^ m) ≤ 2 ^ j
first_doubled-least test zero m j from passes = pow_mono from
first_doubled-least test (suc n) m j from passes = by_test test n m (λ q. q ≤ 2 ^ j) (λ t. pow_mono from) (λ f. ⊎_elim
    (λ e. true_is_not_false (test (2 ^ m)) (ap (λ k. test (2 ^ k)) e ∙ passes) f)
    (λ ne. first_doubled-least test n (suc m) j (omega arith) passes)
    (cases_eq m j))

-- ---- the numbers of lines

pub raised-power : (n : ℕ) → (k : ℕ) × (raised n ≡ 2 ^ k)
unfolding raised
raised-power n = first_doubled-power (λ p. leb n p) 16 0

pub raised-enough : (n : ℕ) → n ≤ 65536 → n ≤ raised n
unfolding raised
raised-enough n few = leb-true n (first_doubled (λ p. leb n p) 16 1) (first_doubled-passes (λ p. leb n p) 16 0 (le-leb n 65536 few))

pub raised-least : (n k : ℕ) → n ≤ 2 ^ k → raised n ≤ 2 ^ k
unfolding raised
raised-least n k enough = first_doubled-least (λ p. leb n p) 16 0 k (omega arith) (le-leb n (2 ^ k) enough)

pub default_lines-power : (n : ℕ) → (k : ℕ) × (default_lines n ≡ 2 ^ k)
unfolding default_lines
default_lines-power n = first_doubled-power (λ p. leb n (p * p)) 16 0

pub default_lines-enough : (n : ℕ) → n ≤ 2 ^ 32 → n ≤ default_lines n * default_lines n
unfolding default_lines
default_lines-enough n few = let p = first_doubled (λ p. leb n (p * p)) 16 1 in leb-true n (p * p) (first_doubled-passes (λ p. leb n (p * p)) 16 0 (le-leb n (2 ^ 32) few))

pub default_lines-least : (n k : ℕ) → n ≤ 2 ^ k * 2 ^ k → default_lines n ≤ 2 ^ k
unfolding default_lines
default_lines-least n k enough = first_doubled-least (λ p. leb n (p * p)) 16 0 k (omega arith) (le-leb n (2 ^ k * 2 ^ k) enough)

pub raised-some : (n : ℕ) → 1 ≤ raised n
raised-some n = let p = raised-power n in omega (arith, p.1, pow_pos p.0)
