-- What an act on owned blocks needs and leaves: states that are alike in the owned blocks stay alike, and the codes of all other blocks stay.
use Rattle.std.proofs.Common.{◌≡◌, ◌≢◌, refl, sym, ap, subst, ◌∙◌, ℕ, zero, suc, ℤ, pos, ◌+ℤ◌, Bool, true, false, Option, Some, get_or, rules}
use Rattle.std.{proofs.lemmas.Bool.{cases_eq}, specs.Int.{Width}}
use Rattle.zf_spec.specs.Numbers.{wrap}
use Rattle.zf_base.{specs.Formats.{Format, with_at}, proofs.Formats.{with_at-same, with_at-other}}
use Rattle.zf_cached.{specs.State.{State, own_line}, specs.Placing.{direct}, specs.Acts.{Act}}
use Rattle.zf_cached.specs.Touch.{write_back, write_back_line, hit, miss, touch, soiled, with_values, touch_for_writing_at, touch_at}
use Rattle.zf_cached.specs.Changes.{write_back_lines, emptied, flush, discard}
use Rattle.zf_cached.proofs.Caching.{at_change, write_back_line_by, write_back_line-other, touch_by, touch-left_away}
use Rattle.zf_cached.specs.Views.{changed, acted, answered, IsWithin, HasOwn, AreAlike}
use Rattle.zf_cache.proofs.Stands.{write_back_line-none, write_back_line-some, write_back_dirty-false, write_back_dirty-true}

-- functions that are changed alike
with_at-alike : {A : Type 0} (f g : ℕ → A) (k : ℕ) (x y : A) (n : ℕ) → x ≡ y → (n ≢ k → f n ≡ g n) → with_at f k x n ≡ with_at g k y n
with_at-alike f g k x y n here other = search (rules, cases_eq, with_at-same, with_at-other)

module _ {Code : Type 0} (f : Format Code) (owned : ℕ → Type 0) where
  -- ---- what is in the lines, or dirty, stays owned

  own-write_back_line : (s : State Code) (l : ℕ) → HasOwn owned s → HasOwn owned (write_back_line f s l)
  unfolding write_back
  own-write_back_line s l h = write_back_line_by f s l (HasOwn owned)
      (λ a held dirty. record {
        held = h.held;
        dirty = λ b. at_change (λ m d. d ≡ true → owned m) s.dirty a false b (λ e. absurd (cc)) (λ ne. h.dirty b);
      })
      (λ a held clean. h) (λ nothing. h)

  own-write_back_lines : (s : State Code) (n : ℕ) → HasOwn owned s → HasOwn owned (write_back_lines f s n)
  unfolding write_back_lines
  own-write_back_lines s zero h = h
  own-write_back_lines s (suc n) h = own-write_back_line (write_back_lines f s n) n (own-write_back_lines s n h)

  own-touch : (s : State Code) (b : ℕ) → owned b → HasOwn owned s → HasOwn owned (touch f s b)
  unfolding hit miss
  own-touch s b own h = touch_by direct f s b (HasOwn owned)
      (λ here. record { held = h.held; dirty = h.dirty })
      (λ away. let k = own-write_back_line s (own_line s b) h in let t = write_back_line f s (own_line s b) in record {
        held = λ l a. at_change (λ m o. o ≡ Some a → owned a) t.held (own_line s b) (Some b) l (λ e. let same : b ≡ a = cc in subst owned same own) (λ ne. k.held l a);
        dirty = k.dirty;
      })

  own-changed : (s : State Code) (b p : ℕ) (change : ℤ → ℤ) → owned b → HasOwn owned s → HasOwn owned (changed f s b p change)
  unfolding touch_for_writing_at soiled with_values
  own-changed s b p change own h =
      let k = own-touch s b own h in record {
        held = k.held;
        dirty = λ a. at_change (λ m d. d ≡ true → owned m) (touch f s b).dirty b true a (λ e. own) (λ ne. k.dirty a);
      }

  own-flush : (s : State Code) → HasOwn owned s → HasOwn owned (flush f s)
  unfolding flush emptied
  own-flush s h = let k = own-write_back_lines s s.lines h in record { held = λ l b e. absurd (cc); dirty = k.dirty }

  own-discard : (s : State Code) → HasOwn owned (discard f s)
  unfolding discard
  own-discard s = record { held = λ l b e. absurd (cc); dirty = λ b e. absurd (cc) }

  pub own-acted : (w : Width) (s : State Code) (a : Act) → IsWithin owned a → HasOwn owned s → HasOwn owned (acted w f s a)
  unfolding acted
  own-acted w s (Act.get b p) own h = own-touch s b own h
  own-acted w s (Act.set b p v) own h = own-changed s b p (λ old. v) own h
  own-acted w s (Act.add b p v) own h = own-changed s b p (λ old. wrap w (old +ℤ v)) own h
  own-acted w s Act.flush own h = own-flush s h
  own-acted w s Act.discard own h = own-discard s

  -- ---- the codes of blocks that are not owned stay, and so do the values that a view has of them, if it has any

  left-touch : (s : State Code) (a b : ℕ) → HasOwn owned s → (owned b → ⊥) → ((touch f s a).values b ≡ s.values b) × ((touch f s a).codes b ≡ s.codes b)
  left-touch s a b h not = let left = touch-left_away direct f s a b (λ e. not (h.held (own_line s a) b e)) in (left.values, left.code)

  left-write_back_lines : (s : State Code) (n b : ℕ) → HasOwn owned s → (owned b → ⊥) → ((write_back_lines f s n).values b ≡ s.values b) × ((write_back_lines f s n).codes b ≡ s.codes b)
  unfolding write_back_lines
  left-write_back_lines s zero b h not = (refl, refl)
  left-write_back_lines s (suc n) b h not =
      let one = write_back_line-other f (write_back_lines f s n) n b (λ e. not ((own-write_back_lines s n h).held n b e)) in
      let rest = left-write_back_lines s n b h not in (one.1 ∙ rest.0, one.2 ∙ rest.1)

  pub stay-acted : (w : Width) (s : State Code) (a : Act) (b : ℕ) → HasOwn owned s → (owned b → ⊥) → (acted w f s a).codes b ≡ s.codes b
  unfolding acted touch_for_writing_at soiled with_values flush emptied discard
  stay-acted w s (Act.get a p) b h not = (left-touch s a b h not).1
  stay-acted w s (Act.set a p v) b h not = (left-touch s a b h not).1
  stay-acted w s (Act.add a p v) b h not = (left-touch s a b h not).1
  stay-acted w s Act.flush b h not = (left-write_back_lines s s.lines b h not).1
  stay-acted w s Act.discard b h not = refl

  quiet-changed : (s : State Code) (a p b : ℕ) (change : ℤ → ℤ) → owned a → HasOwn owned s → (owned b → ⊥) → (changed f s a p change).values b ≡ s.values b
  unfolding touch_for_writing_at soiled with_values
  quiet-changed s a p b change own h not = with_at-other (touch f s a).values a _ b (λ e. not (subst owned (sym e) own)) ∙ (left-touch s a b h not).0

  quiet-discard : (s : State Code) (b : ℕ) → HasOwn owned s → (owned b → ⊥) → (discard f s).values b ≡ s.values b
  unfolding discard
  quiet-discard s b h not = search rules

  pub quiet-acted : (w : Width) (s : State Code) (a : Act) (b : ℕ) → IsWithin owned a → HasOwn owned s → (owned b → ⊥) → (acted w f s a).values b ≡ s.values b
  unfolding acted flush emptied
  quiet-acted w s (Act.get a p) b own h not = (left-touch s a b h not).0
  quiet-acted w s (Act.set a p v) b own h not = quiet-changed s a p b (λ old. v) own h not
  quiet-acted w s (Act.add a p v) b own h not = quiet-changed s a p b (λ old. wrap w (old +ℤ v)) own h not
  quiet-acted w s Act.flush b own h not = (left-write_back_lines s s.lines b h not).0
  quiet-acted w s Act.discard b own h not = quiet-discard s b h not

  -- ---- states that are alike stay alike

  alike-same : (s s' t t' : State Code) → s' ≡ s → t' ≡ t → AreAlike owned s t → AreAlike owned s' t'
  alike-same s s' t t' es et h = subst (λ u. AreAlike owned u t') (sym es) (subst (AreAlike owned s) (sym et) h)

  alike-write_back : (s t : State Code) (a : ℕ) → owned a → AreAlike owned s t → AreAlike owned (write_back f s a) (write_back f t a)
  unfolding write_back
  alike-write_back s t a own h = search (rules, with_at-alike)

  alike-write_back_line : (s t : State Code) (l : ℕ) → HasOwn owned s → AreAlike owned s t → AreAlike owned (write_back_line f s l) (write_back_line f t l)
  alike-write_back_line s t l own h =
      let held : t.held l ≡ s.held l = sym (ap (λ (g : ℕ → Option ℕ). g l) h.held) in
      let dirty : (b : ℕ) → t.dirty b ≡ s.dirty b = λ b. sym (ap (λ (g : ℕ → Bool). g b) h.dirty) in
      write_back_line_by f s l (λ r. AreAlike owned r (write_back_line f t l))
      (λ b e d. subst (AreAlike owned (write_back f s b)) (sym (write_back_line-some f t l b (held ∙ e) ∙ write_back_dirty-true f t b (dirty b ∙ d))) (alike-write_back s t b (own.held l b e) h))
      (λ b e d. subst (AreAlike owned s) (sym (write_back_line-some f t l b (held ∙ e) ∙ write_back_dirty-false f t b (dirty b ∙ d))) h)
      (λ e. subst (AreAlike owned s) (sym (write_back_line-none f t l (held ∙ e))) h)

  alike-write_back_lines : (s t : State Code) (n : ℕ) → HasOwn owned s → AreAlike owned s t → AreAlike owned (write_back_lines f s n) (write_back_lines f t n)
  unfolding write_back_lines
  alike-write_back_lines s t zero own h = h
  alike-write_back_lines s t (suc n) own h =
      alike-write_back_line (write_back_lines f s n) (write_back_lines f t n) n (own-write_back_lines s n own) (alike-write_back_lines s t n own h)

  alike-hit : (s t : State Code) → AreAlike owned s t → AreAlike owned (hit s) (hit t)
  unfolding hit
  alike-hit s t h = search rules

  alike-miss : (s t : State Code) (l b : ℕ) → HasOwn owned s → AreAlike owned s t → AreAlike owned (miss f s l b) (miss f t l b)
  unfolding miss
  alike-miss s t l b own h = search (rules, alike-write_back_line)

  alike-touch : (s t : State Code) (b : ℕ) → HasOwn owned s → AreAlike owned s t → AreAlike owned (touch f s b) (touch f t b)
  unfolding touch_at
  alike-touch s t b own h = search (rules, alike-miss, alike-same, alike-hit)

  alike-changed : (s t : State Code) (b p : ℕ) (change : ℤ → ℤ) → owned b → HasOwn owned s → AreAlike owned s t → AreAlike owned (changed f s b p change) (changed f t b p change)
  unfolding touch_for_writing_at soiled with_values
  alike-changed s t b p change o own h = search (rules, alike-touch, with_at-alike)

  alike-flush : (s t : State Code) → HasOwn owned s → AreAlike owned s t → AreAlike owned (flush f s) (flush f t)
  unfolding flush emptied
  alike-flush s t own h = search (rules, alike-write_back_lines)

  alike-discard : (s t : State Code) → AreAlike owned s t → AreAlike owned (discard f s) (discard f t)
  unfolding discard
  alike-discard s t h = search rules

  pub alike-acted : (w : Width) (s t : State Code) (a : Act) → IsWithin owned a → HasOwn owned s → AreAlike owned s t → AreAlike owned (acted w f s a) (acted w f t a)
  unfolding acted
  alike-acted w s t (Act.get b p) o own h = alike-touch s t b own h
  alike-acted w s t (Act.set b p v) o own h = alike-changed s t b p (λ old. v) o own h
  alike-acted w s t (Act.add b p v) o own h = alike-changed s t b p (λ old. wrap w (old +ℤ v)) o own h
  alike-acted w s t Act.flush o own h = alike-flush s t own h
  alike-acted w s t Act.discard o own h = alike-discard s t h

  -- states that are alike give the same answer
  pub alike-answered : (s t : State Code) (a : Act) → IsWithin owned a → AreAlike owned s t → answered s a ≡ answered t a
  unfolding answered
  alike-answered s t (Act.get b p) o h = ap (λ vs. Some (get_or vs p (pos 0))) (h.values b o)
  alike-answered s t x o h = refl

  pub alike-refl : (s : State Code) → AreAlike owned s s
  alike-refl s = record { lines = refl; held = refl; dirty = refl; counts = refl; values = λ b o. refl; codes = λ b o. refl }
