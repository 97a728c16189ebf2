-- However the steps of several views are mixed, each view goes as it goes alone.
use Rattle.std.proofs.Common.{◌≡◌, ◌≢◌, refl, ap, subst, ◌∙◌, ℕ, ◌==◌, ℤ, Bool, true, false, eqb-true, eq-eqb, Option, List, [], ◌∷◌, rules}
use Rattle.std.specs.Int.{Width}
use Rattle.zf_base.{specs.Formats.{Format}, proofs.Formats.{with_at-same, with_at-other}}
use Rattle.zf_cached.proofs.Caching.{at_change}
use Rattle.zf_cached.specs.Views.{View, Views, Step, acted, answered, with_codes, without_codes, state_of_view, stepped, ran, answers, steps_of, NoneShared, IsUnowned, IsWithin, AreWithin, HasOwn, AreAlike}
use Rattle.zf_private.proofs.Alike.{own-acted, stay-acted, alike-acted, alike-answered}

module _ {Code : Type 0} (w : Width) (f : Format Code) (owns : ℕ → ℕ → Type 0) where
  -- what is in the lines of each view, or dirty there, is its own
  abbrev pub AllOwn : Views Code → Type 0
  AllOwn s = (j : ℕ) → HasOwn (owns j) (state_of_view s j)

  own-stepped : (s : Views Code) (st : Step) → IsWithin (owns st.view) st.act → AllOwn s → AllOwn (stepped w f s st)
  unfolding stepped
  own-stepped s st within own j =
      let t = acted w f (state_of_view s st.view) st.act in
      let k = own-acted f (owns st.view) w (state_of_view s st.view) st.act within (own st.view) in
      at_change (λ m v. HasOwn (owns m) (with_codes v t.codes)) s.view st.view (without_codes t) j
      (record { held = k.held; dirty = k.dirty }) (λ ne. record { held = (own j).held; dirty = (own j).dirty })

  pub own-ran : (s : Views Code) (steps : List Step) → AreWithin owns steps → AllOwn s → AllOwn (ran w f s steps)
  unfolding ran
  own-ran s [] within own = own
  own-ran s (st ∷ steps) within own = own-ran (stepped w f s st) steps within.1 (own-stepped s st within.0 own)

  -- the view of a step, after it
  pub there : (s : Views Code) (st : Step) → state_of_view (stepped w f s st) st.view ≡ acted w f (state_of_view s st.view) st.act
  unfolding stepped
  there s st = let t = acted w f (state_of_view s st.view) st.act in ap (λ (v : View). with_codes v t.codes) (with_at-same s.view st.view (without_codes t))

  -- the code of a block that the view of a step does not own
  pub stays : (s : Views Code) (st : Step) (b : ℕ) → AllOwn s → (owns st.view b → ⊥) → (stepped w f s st).codes b ≡ s.codes b
  unfolding stepped
  stays s st b own not = stay-acted f (owns st.view) w (state_of_view s st.view) st.act b (own st.view) not

  pub unowned-ran : (s : Views Code) (steps : List Step) (b : ℕ) → IsUnowned owns b → AreWithin owns steps → AllOwn s → (ran w f s steps).codes b ≡ s.codes b
  unfolding ran
  unowned-ran s [] b un within own = refl
  unowned-ran s (st ∷ steps) b un within own =
      unowned-ran (stepped w f s st) steps b un within.1 (own-stepped s st within.0 own) ∙ stays s st b own (un st.view)

  module _ (i : ℕ) (shared : NoneShared owns) where
    -- view i is alike in the two
    abbrev Alike : Views Code → Views Code → Type 0
    Alike s s' = AreAlike (owns i) (state_of_view s i) (state_of_view s' i)

    -- a step of view i keeps it so
    alike-step : (s s' : Views Code) (st : Step) → st.view ≡ i → IsWithin (owns st.view) st.act → AllOwn s → Alike s s' → Alike (stepped w f s st) (stepped w f s' st)
    alike-step s s' st is within own h = search (rules, alike-acted, there)

    -- and so does a step of another view in one of the two
    pub alike-other : (s s' : Views Code) (st : Step) → st.view ≢ i → AllOwn s → Alike s s' → Alike (stepped w f s st) s'
    unfolding stepped
    alike-other s s' st not own h = search (rules, with_at-other, stays)

    -- what holds of no steps, behind a step of view i in both, and behind one of another view in one of the two, holds of the steps of view i
    by_steps : (P : Views Code → Views Code → List Step → List Step → Type 0) → ((s s' : Views Code) → Alike s s' → P s s' [] [])
        → ((s s' : Views Code) (st : Step) (steps rest : List Step) → IsWithin (owns i) st.act → Alike (stepped w f s st) (stepped w f s' st) → P (stepped w f s st) (stepped w f s' st) steps rest → P s s' (st ∷ steps) (st ∷ rest))
        → ((s s' : Views Code) (st : Step) (steps rest : List Step) → (st.view == i) ≡ false → P (stepped w f s st) s' steps rest → P s s' (st ∷ steps) rest)
        → (s s' : Views Code) (steps : List Step) → AreWithin owns steps → AllOwn s → Alike s s' → P s s' steps (steps_of i steps)
    unfolding steps_of
    by_steps P none both one s s' [] within own h = none s s' h
    by_steps P none both one s s' (st ∷ steps) within own h =
        let next = own-stepped s st within.0 own in
        by (st.view == i) refl (by_steps P none both one (stepped w f s st) (stepped w f s' st) steps within.1 next) (by_steps P none both one (stepped w f s st) s' steps within.1 next)
      where
        by : (t : Bool) → (st.view == i) ≡ t → (Alike (stepped w f s st) (stepped w f s' st) → P (stepped w f s st) (stepped w f s' st) steps (steps_of i steps))
            → (Alike (stepped w f s st) s' → P (stepped w f s st) s' steps (steps_of i steps)) → P s s' (st ∷ steps) (elim t [ true ↦ st ∷ steps_of i steps | false ↦ steps_of i steps ])
        by true e rest other =
            let is = eqb-true st.view i e in let k = alike-step s s' st is within.0 own h in
            both s s' st steps (steps_of i steps) (subst (λ j. IsWithin (owns j) st.act) is within.0) k (rest k)
        by false e rest other = one s s' st steps (steps_of i steps) e (other (alike-other s s' st (λ same. let t = eq-eqb st.view i same in cc) own h))

    pub alike-ran : (s s' : Views Code) (steps : List Step) → AreWithin owns steps → AllOwn s → Alike s s' → Alike (ran w f s steps) (ran w f s' (steps_of i steps))
    unfolding ran
    alike-ran = by_steps (λ s s' xs ys. Alike (ran w f s xs) (ran w f s' ys)) (λ s s' h. h) (λ s s' st xs ys o k rest. rest) (λ s s' st xs ys e rest. rest)

    pub same-answers : (s s' : Views Code) (steps : List Step) → AreWithin owns steps → AllOwn s → Alike s s' → answers w f i s steps ≡ answers w f i s' (steps_of i steps)
    unfolding answers
    same-answers = by_steps (λ s s' xs ys. answers w f i s xs ≡ answers w f i s' ys) (λ s s' h. refl)
        (search (rules, alike-answered))
        (λ s s' st xs ys e rest. ap (λ t. begun t (answered (state_of_view (stepped w f s st) i) st.act) (answers w f i (stepped w f s st) xs)) e ∙ rest)
      where
        -- the answers from a step on
        begun : Bool → Option ℤ → List (Option ℤ) → List (Option ℤ)
        begun t answer rest = elim t [ true ↦ answer ∷ rest | false ↦ rest ]
