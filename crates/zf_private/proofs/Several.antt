-- The calls of several views over one backing are the steps of the definition.
use Rattle.std.{proofs.Common.{◌≡◌, ◌≢◌, sym, ap, subst, ◌∙◌, ◌⊎◌, ⊎_elim, ℕ, ℤ, rules}, specs.Int.{Width}}
use Rattle.std.proofs.lemmas.Bool.{cases_lt, cases_eq}
use Rattle.zf_base.specs.Formats.{Format}
use Rattle.zf_cached.{specs.State.{State}, specs.Acts.{Act}}
use Rattle.zf_cached.specs.Views.{Views, Step, state_of_view, acted, answered, stepped, IsWithin, HasOwn, AreAlike}
use Rattle.zf_cache.specs.Standing.{Fits, state_at}
use Rattle.zf_private.{specs.Standing.{Held, Own, IsSameView, IsWhole, state}, proofs.Calls.{own_state}}
use Rattle.zf_private.{specs.Several.{AreReady, StandFor}, proofs.Alone.{there, stays, alike-other}}
use Rattle.zf_private.proofs.Alike.{stay-acted, alike-acted, alike-answered, alike-refl}
use Rattle.zf_private.{proofs.Others.{other_codes_fit, other_codes_alike}, proofs.Ready.{own_before}}

module _ {Code : Type 0} (owned : ℕ → Type 0) where
  alike-of : (own : ℕ → Type 0) (s t : State Code) → ((b : ℕ) → own b → owned b) → AreAlike owned s t → AreAlike own s t
  alike-of own s t less h = record { lines = h.lines; held = h.held; dirty = h.dirty; counts = h.counts; values = λ b o. h.values b (less b o); codes = λ b o. h.codes b (less b o) }

  alike-sym : {s t : State Code} → AreAlike owned s t → AreAlike owned t s
  alike-sym h = record { lines = sym h.lines; held = sym h.held; dirty = sym h.dirty; counts = sym h.counts; values = λ b o. sym (h.values b o); codes = λ b o. sym (h.codes b o) }

  pub alike-trans : {s t u : State Code} → AreAlike owned s t → AreAlike owned t u → AreAlike owned s u
  alike-trans h k = search rules

  own-alike : (s t : State Code) → AreAlike owned s t → HasOwn owned s → HasOwn owned t
  own-alike s t h own = search rules

pub own-or-not : {X : Type 0} (v : Held X) (b : ℕ) → Own v b ⊎ (Own v b → ⊥)
own-or-not v b = search (rules, cases_lt)

-- a call of view i: the act a
module _ {X Code : Type 0} (value : X → ℤ) (d : ℕ) (w : Width) (views news : ℕ → Held X) (f g : Format Code) (k j : ℕ → Code) (i : ℕ) (a : Act)
    (ready : AreReady value d views f k) (same : g ≡ f) (others : (m : ℕ) → m ≢ i → news m ≡ views m) (kept : IsSameView (views i) (news i))
    (within : IsWithin (Own (views i)) a) (step : state value (news i) g j ≡ acted w f (state value (views i) f k) a) where
  abbrev owns : ℕ → ℕ → Type 0
  owns m = Own (views m)

  -- which blocks a view owns stays
  own-before : (m b : ℕ) → Own (news m) b → Own (views m) b
  own-before m b = search (rules, cases_eq, own_before)

  codes-stay : (b : ℕ) → (Own (views i) b → ⊥) → j b ≡ k b
  unfolding state_at
  codes-stay b not = ap (λ (t : State Code). t.codes b) step ∙ stay-acted f (Own (views i)) w (state value (views i) f k) a b (own_state value d (views i) f k (ready.whole i)) not

  codes-of-other : (m b : ℕ) → m ≢ i → Own (views m) b → j b ≡ k b
  codes-of-other m b ne o = codes-stay b (λ mine. ne (ready.apart m i b o mine))

  -- what holds of view i after the call, and of the others before, holds of each after it
  each_of : (P : ℕ → Held X → Type 0) → P i (news i) → ((m : ℕ) → m ≢ i → P m (views m)) → (m : ℕ) → P m (news m)
  each_of P here there m = ⊎_elim (λ e. subst (λ n. P n (news n)) (sym e) here) (λ ne. subst (P m) (sym (others m ne)) (there m ne)) (cases_eq m i)

  pub still_ready : IsWhole d (news i) → Fits value (news i).cache g j → AreReady value d news g j
  still_ready whole fits = record {
    whole = each_of (λ m v. IsWhole d v) whole (λ m ne. ready.whole m);
    fits = each_of (λ m v. Fits value v.cache g j) fits (λ m ne. other_codes_fit value d (views m) f g k j (ready.whole m) same (λ b o. codes-of-other m b ne o) (ready.fits m));
    apart = λ m n b o p. ready.apart m n b (own-before m b o) (own-before n b p);
  }

  module _ (s : Views Code) (stand : StandFor value views f k s) where
    abbrev pub st : Step
    st = record { view = i; act = a }

    own_all : (m : ℕ) → HasOwn (Own (views m)) (state_of_view s m)
    own_all m = own-alike (Own (views m)) (state value (views m) f k) (state_of_view s m) (stand.alike m) (own_state value d (views m) f k (ready.whole m))

    -- view i, by the definition
    acts_alike : AreAlike (Own (views i)) (state value (news i) g j) (state_of_view (stepped w f s st) i)
    acts_alike =
        subst (AreAlike (Own (views i)) (state value (news i) g j)) (sym (there w f owns s st))
        (subst (λ t. AreAlike (Own (views i)) t (acted w f (state_of_view s i) a)) (sym step)
        (alike-acted f (Own (views i)) w (state value (views i) f k) (state_of_view s i) a within (own_state value d (views i) f k (ready.whole i)) (stand.alike i)))

    other_alike : (m : ℕ) → m ≢ i → AreAlike (Own (views m)) (state value (news m) g j) (state_of_view (stepped w f s st) m)
    other_alike m ne =
        let own = Own (views m) in
        let codes = alike-sym own (other_codes_alike value d (views m) f g k j (ready.whole m) same (λ b o. codes-of-other m b ne o)) in
        let one = alike-sym own (alike-other w f owns m ready.apart s s st (λ e. ne (sym e)) own_all (alike-refl f (Own (views m)) (state_of_view s m))) in search rules

    codes-stand : (b : ℕ) → j b ≡ (stepped w f s st).codes b
    unfolding state_at
    codes-stand b =
        ⊎_elim (λ o. acts_alike.codes b o) (λ not. codes-stay b not ∙ stand.same_codes b ∙ sym (stays w f owns s st b own_all not))
        (own-or-not (views i) b)

    pub stands_for : StandFor value news g j (stepped w f s st)
    stands_for = search (rules, codes-stand, cases_eq, alike-of, own-before, acts_alike, other_alike)

    pub same_answer : answered (state value (news i) g j) a ≡ answered (state_of_view (stepped w f s st) i) a
    same_answer = alike-answered f (Own (views i)) (state value (news i) g j) (state_of_view (stepped w f s st) i) a within acts_alike
