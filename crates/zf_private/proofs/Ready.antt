-- What a call of one view leaves of it, and of another over the same backing.
use Rattle.std.proofs.Common.{◌≡◌, sym, subst, ℕ, ◌≤◌, ℤ, arith, rules}
use Rattle.zf_base.specs.Formats.{Format}
use Rattle.zf_cache.specs.Standing.{Fits}
use Rattle.zf_private.specs.Standing.{Held, Own, IsOver, HasPlaces, IsSameView, IsWhole}
use Rattle.zf_private.{specs.Several.{IsReady}, proofs.Others.{other_codes_fit}}

module _ {X Code : Type 0} (value : X → ℤ) (d : ℕ) (f g : Format Code) (k j : ℕ → Code) (same : g ≡ f) where
  -- a view that was called
  pub ready_after : (v n : Held X) → IsReady value d v f k → IsSameView v n → IsWhole d n → Fits value n.cache g j → IsReady value d n g j
  ready_after v n ready kept whole fits = search rules

  -- another view
  pub ready_beside : (v o : Held X) → IsReady value d o f k → ((b : ℕ) → (Own v b → ⊥) → j b ≡ k b) → ((b : ℕ) → Own v b → Own o b → ⊥) → IsReady value d o g j
  ready_beside v o ready others apart = record {
    whole = ready.whole;
    fits = other_codes_fit value d o f g k j ready.whole same (λ b own. others b (λ mine. apart b mine own)) ready.fits;
    over = subst (λ (h : Format Code). IsOver o h) (sym same) ready.over;
    places = subst (λ (h : Format Code). HasPlaces o h) (sym same) ready.places;
  }

-- what a view owns stays
pub own_before : {X : Type 0} (v n : Held X) → IsSameView v n → (b : ℕ) → Own n b → Own v b
own_before v n kept b o = (subst (λ m. m ≤ b) kept.first o.0, let far = o.1 in omega (arith, far, kept.first, kept.count))
