-- What the laws say of views over a backing, and of the parts of an array.
use Rattle.std.proofs.Common.{◌≡◌, refl, sym, ap, subst, ◌∙◌, ◌⊎◌, inl, inr, ℕ, zero, suc, ◌+◌, ◌*◌, ◌/◌, ◌<◌, ◌≤◌, ℤ, arith, rules}
use Rattle.std.{specs.Int.{Width}, proofs.lemmas.Bool.{cases_lt}}
use Rattle.std.proofs.Math.Nat.{zero-div, mul-div_cancel_left}
use Rattle.zf_base.specs.Formats.{Format, meant}
use Rattle.zf_cached.{specs.State.{State}, specs.Changes.{discard}}
use Rattle.zf_cached.{specs.Acts.{Act}, specs.Views.{acted, AreAlike}}
use Rattle.zf_cached.specs.Ownership.{OwnsPart, first_of}
use Rattle.zf_cache.{specs.Kept.{block_in}, specs.Standing.{Fits, state_at}, proofs.Tags.{names-clean}}
use Rattle.zf_private.specs.Standing.{Held, Own, state, IsWhole}

pub acted-discard : {Code : Type 0} (w : Width) (f : Format Code) (s : State Code) → discard f s ≡ acted w f s Act.discard
unfolding acted
acted-discard w f s = refl

-- ---- codes that changed in the blocks of other views

module _ {X Code : Type 0} (value : X → ℤ) (d : ℕ) (v : Held X) (f g : Format Code) (k j : ℕ → Code) (whole : IsWhole d v) (same : g ≡ f) (codes : (b : ℕ) → Own v b → j b ≡ k b) where
  pub other_codes_fit : Fits value v.cache f k → Fits value v.cache g j
  other_codes_fit fits = subst (λ h. Fits value v.cache h j) (sym same) (record {
    own = fits.own;
    clean = λ l b tag. fits.clean l b tag ∙ ap (meant f b) (sym (codes b (whole.own l b (ap block_in tag ∙ names-clean b))));
  })

  pub other_codes_alike : AreAlike (Own v) (state value v f k) (state value v g j)
  unfolding state_at
  other_codes_alike = search rules

-- ---- the parts of an array

-- the view of a block, where the views below m own it
pub owner_below : (n k b m : ℕ) → b < first_of n k m → (i : ℕ) × (i < m) × OwnsPart n k i b
owner_below n k b zero h = let zero_times : 0 * n ≡ 0 = omega arith in let none : first_of n k 0 ≡ 0 = ap (λ m. m / k) zero_times ∙ zero-div k in absurd (omega (arith, h, none))
owner_below n k b (suc m) h = by (cases_lt b (first_of n k m)) (owner_below n k b m)
  where
    by : (b < first_of n k m) ⊎ (first_of n k m ≤ b) → (b < first_of n k m → (i : ℕ) × (i < m) × OwnsPart n k i b) → (i : ℕ) × (i < suc m) × OwnsPart n k i b
    by (inl lt) before = let r = before lt in (r.0, omega (arith, r.1), r.2)
    by (inr ge) before =
        let next : m + 1 ≡ suc m = omega arith in
        let below : b < first_of n k (m + 1) = subst (λ i. b < first_of n k i) (sym next) h in
        (m, omega arith, (ge, omega (arith, ge, below)))

pub first_of-last : (n k : ℕ) → 1 ≤ k → first_of n k k ≡ n
first_of-last n k some = mul-div_cancel_left n some
