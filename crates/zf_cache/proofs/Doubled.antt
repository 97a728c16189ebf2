-- The first of 1, 2, 4, .. that passes a test, step by step.
use Rattle.std.proofs.Common.{◌≡◌, refl, ap, ◌∙◌, ℕ, zero, suc, ◌+◌, ◌-◌, ◌*◌, ◌^◌, ◌<◌, ◌≤◌, Bool, true, false, arith, pow-suc, add-one, rules}
use Rattle.std.proofs.Math.Pow.{pow_mono}
use Rattle.zf_cached.specs.Changes.{first_doubled}

module _ (test : ℕ → Bool) where
  pub stops : (n p : ℕ) → test p ≡ true → first_doubled test n p ≡ p
  stops zero p e = refl
  stops (suc n) p e = ap (λ (t : Bool). elim t [ true ↦ p | false ↦ first_doubled test n (2 * p) ]) e

  goes_on : (n m p : ℕ) → n ≡ suc m → test p ≡ false → first_doubled test n p ≡ first_doubled test m (2 * p)
  goes_on n m p at e = ap (λ k. first_doubled test k p) at ∙ ap (λ (t : Bool). elim t [ true ↦ p | false ↦ first_doubled test m (2 * p) ]) e

  -- after i doublings p is looked at, and no number before it has passed
  abbrev pub Tried : ℕ → ℕ → Type 0
  Tried i p = (first_doubled test 16 1 ≡ first_doubled test (16 - i) p) × (p ≡ 2 ^ i) × (p ≤ 2 ^ 16)

  pub tried_more : (i p : ℕ) → Tried i p → i < 16 → test p ≡ false → Tried (i + 1) (p * 2)
  tried_more i p h lt e =
      let left : 16 - i ≡ suc (16 - (i + 1)) = omega arith in let twice : 2 * p ≡ p * 2 = omega arith in
      let double : 2 ^ (i + 1) ≡ 2 ^ i * 2 = rw (add-one, pow-suc) in search (rules, pow_mono, goes_on)

  pub passes : (i p : ℕ) → Tried i p → test p ≡ true → first_doubled test 16 1 ≡ p
  passes i p h e = h.0 ∙ stops (16 - i) p e

  pub ends : (i p : ℕ) → Tried i p → 16 ≤ i → first_doubled test 16 1 ≡ p
  ends i p h past = let none : 16 - i ≡ 0 = omega arith in h.0 ∙ ap (λ k. first_doubled test k p) none
