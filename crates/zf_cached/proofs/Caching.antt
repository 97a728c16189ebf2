-- Touches and write-backs, and what becomes of each block.
use Rattle.std.proofs.Common.{◌≡◌, ◌≢◌, refl, sym, ap, subst, ◌∙◌, ℕ, ◌%◌, Bool, true, false, eqb, eqb-true, eq-eqb, Option, Some, None, rules}
use Rattle.std.proofs.lemmas.Bool.{cases_eq}
use Rattle.zf_base.{specs.Formats.{Format, rounded, with_at}, proofs.Formats.{with_at-same, with_at-other}}
use Rattle.zf_cached.{specs.State.{State, is_block, is_here}, specs.Placing.{Line, line_in, is_at, direct}}
use Rattle.zf_cached.specs.Touch.{write_back, write_back_dirty, write_back_line, hit, miss, touch_at, soiled, touch_for_writing_at, touch}
use Rattle.zf_cached.specs.Fates.{IsLeft, IsRounded}

pub true_is_not_false : {P : Type 0} (b : Bool) → b ≡ true → b ≡ false → P
true_is_not_false b t f = absurd (cc)

-- what holds at k and at every other number holds of a function that is changed at k
pub at_change : {A : Type 0} (P : ℕ → A → Type 0) (f : ℕ → A) (k : ℕ) (a : A) (n : ℕ) → P k a → (n ≢ k → P n (f n)) → P n (with_at f k a n)
at_change P f k a n here other = search (rules, cases_eq, with_at-same, with_at-other)

-- ---- write-back

-- what is written back only where it is dirty
pub write_back_dirty_by : {Code : Type 0} (format : Format Code) (s : State Code) (b : ℕ) (P : State Code → Type 0) → (s.dirty b ≡ true → P (write_back format s b)) → (s.dirty b ≡ false → P s) → P (write_back_dirty format s b)
unfolding write_back_dirty
write_back_dirty_by format s b P dirty clean = search rules

pub write_back_line_by : {Code : Type 0} (format : Format Code) (s : State Code) (l : ℕ) (P : State Code → Type 0)
    → ((b : ℕ) → s.held l ≡ Some b → s.dirty b ≡ true → P (write_back format s b)) → ((b : ℕ) → s.held l ≡ Some b → s.dirty b ≡ false → P s) → (s.held l ≡ None → P s) → P (write_back_line format s l)
unfolding write_back_line
write_back_line_by format s l P dirty clean nothing = by (s.held l) refl
  where
    by : (o : Option ℕ) → s.held l ≡ o → P (elim o [ None ↦ s | Some b ↦ write_back_dirty format s b ])
    by None e = nothing e
    by (Some b) e = write_back_dirty_by format s b P (dirty b e) (clean b e)

-- what a write-back leaves
pub write_back_line-lines : {Code : Type 0} (format : Format Code) (s : State Code) (l : ℕ) → (write_back_line format s l).lines ≡ s.lines
unfolding write_back
write_back_line-lines format s l = write_back_line_by format s l (λ t. t.lines ≡ s.lines) (λ b here dirty. refl) (λ b here clean. refl) (λ nothing. refl)

pub write_back_line-held : {Code : Type 0} (format : Format Code) (s : State Code) (l : ℕ) → (write_back_line format s l).held ≡ s.held
unfolding write_back
write_back_line-held format s l = write_back_line_by format s l (λ t. t.held ≡ s.held) (λ b here dirty. refl) (λ b here clean. refl) (λ nothing. refl)

-- the block that was in the line is not dirty any more
pub write_back_line-clean : {Code : Type 0} (format : Format Code) (s : State Code) (l b : ℕ) → s.held l ≡ Some b → (write_back_line format s l).dirty b ≡ false
unfolding write_back
write_back_line-clean format s l b here = write_back_line_by format s l (λ t. t.dirty b ≡ false)
    (λ a held dirty. let same : b ≡ a = cc in subst (λ n. with_at s.dirty a false n ≡ false) (sym same) (with_at-same s.dirty a false))
    (λ a held clean. let same : b ≡ a = cc in ap s.dirty same ∙ clean) (λ nothing. absurd (cc))

-- and no other block is touched by it: what was clean stays as it was
pub write_back_line-other : {Code : Type 0} (format : Format Code) (s : State Code) (l b : ℕ) → (s.held l ≡ Some b → ⊥) →
    ((write_back_line format s l).dirty b ≡ s.dirty b) × ((write_back_line format s l).values b ≡ s.values b) × ((write_back_line format s l).codes b ≡ s.codes b)
unfolding write_back
write_back_line-other format s l b away = write_back_line_by format s l (λ t. (t.dirty b ≡ s.dirty b) × (t.values b ≡ s.values b) × (t.codes b ≡ s.codes b))
    (λ a held dirty. let ne : b ≢ a = λ e. away (held ∙ ap Some (sym e)) in
    (with_at-other s.dirty a false b ne, with_at-other s.values a _ b ne, with_at-other s.codes a _ b ne))
    (λ a held clean. (refl, refl, refl)) (λ nothing. (refl, refl, refl))

-- what a line holds
pub is_block-true : (o : Option ℕ) (b : ℕ) → is_block o b ≡ true → o ≡ Some b
is_block-true None b h = absurd (cc)
is_block-true (Some a) b h = ap Some (eqb-true a b h)

pub is_block-false : (o : Option ℕ) (b : ℕ) → is_block o b ≡ false → o ≡ Some b → ⊥
is_block-false None b h e = cc
is_block-false (Some a) b h e = let same : a ≡ b = cc in let t = eq-eqb a b same in true_is_not_false (eqb a b) t h

pub is_block-some : (o : Option ℕ) (b : ℕ) → o ≡ Some b → is_block o b ≡ true
is_block-some o b e = ap (λ p. is_block p b) e ∙ eq-eqb b b refl

-- a clean block keeps its values and its code
pub write_back_line-keeps_clean : {Code : Type 0} (format : Format Code) (s : State Code) (l b : ℕ) → s.dirty b ≡ false →
    ((write_back_line format s l).dirty b ≡ false) × ((write_back_line format s l).values b ≡ s.values b) × ((write_back_line format s l).codes b ≡ s.codes b)
unfolding write_back
write_back_line-keeps_clean format s l b clean = write_back_line_by format s l (λ t. (t.dirty b ≡ false) × (t.values b ≡ s.values b) × (t.codes b ≡ s.codes b))
    (λ a held dirty. let ne : b ≢ a = λ e. true_is_not_false (s.dirty a) dirty (sym (ap s.dirty e) ∙ clean) in
    (with_at-other s.dirty a false b ne ∙ clean, with_at-other s.values a _ b ne, with_at-other s.codes a _ b ne))
    (λ a held clean_too. (clean, refl, refl)) (λ nothing. (clean, refl, refl))

-- the block in a line that is written back, where it is dirty
pub write_back_line-rounded : {Code : Type 0} (format : Format Code) (s : State Code) (l b : ℕ) → s.held l ≡ Some b → s.dirty b ≡ true → IsRounded format s (write_back_line format s l) b
unfolding write_back rounded
write_back_line-rounded format s l b held dirty = write_back_line_by format s l (λ t. IsRounded format s t b)
    (λ a here soiled. subst (λ n. IsRounded format s (write_back format s n) b) (let same : b ≡ a = cc in same) (record {
      clean = with_at-same s.dirty b false;
      values = with_at-same s.values b _;
      code = with_at-same s.codes b _;
    }))
    (λ a here clean. let same : b ≡ a = cc in true_is_not_false (s.dirty b) dirty (ap s.dirty same ∙ clean)) (λ nothing. absurd (cc))

-- ---- touches, whatever the placing

module _ (line : Line) {Code : Type 0} (format : Format Code) (s : State Code) where
  pub touch_by : (b : ℕ) (P : State Code → Type 0) → (is_at line s b ≡ true → P (hit s)) → (is_at line s b ≡ false → P (miss format s (line_in line s b) b)) → P (touch_at line format s b)
  unfolding touch_at
  touch_by b P here away = search rules

  pub touch-lines : (b : ℕ) → (touch_at line format s b).lines ≡ s.lines
  unfolding hit miss
  touch-lines b = touch_by b (λ t. t.lines ≡ s.lines) (λ here. refl) (λ away. write_back_line-lines format s (line_in line s b))

  -- the line holds the block then
  pub touch-here : (b : ℕ) → (touch_at line format s b).held (line_in line s b) ≡ Some b
  unfolding hit miss
  touch-here b = touch_by b (λ t. t.held (line_in line s b) ≡ Some b)
      (λ here. is_block-true (s.held (line_in line s b)) b here) (λ away. with_at-same (write_back_line format s (line_in line s b)).held (line_in line s b) (Some b))

  pub touch-hit : (b : ℕ) → is_at line s b ≡ true → touch_at line format s b ≡ hit s
  touch-hit b here = touch_by b (λ t. t ≡ hit s) (λ yes. refl) (λ no. true_is_not_false (is_at line s b) here no)

  -- a block that is not in the line which is taken is left as it was
  pub touch-left_away : (a b : ℕ) → (s.held (line_in line s a) ≡ Some b → ⊥) → IsLeft s (touch_at line format s a) b
  unfolding hit miss
  touch-left_away a b away = touch_by a (λ t. IsLeft s t b) (λ here. record { dirty = refl; values = refl; code = refl })
      (λ gone. let h = write_back_line-other format s (line_in line s a) b away in record { dirty = h.0; values = h.1; code = h.2 })

  -- so is the block that is touched, and one that is clean
  pub touch-left : (b : ℕ) → IsLeft s (touch_at line format s b) b
  unfolding hit miss
  touch-left b = touch_by b (λ t. IsLeft s t b) (λ here. record { dirty = refl; values = refl; code = refl })
      (λ gone. let h = write_back_line-other format s (line_in line s b) b (is_block-false (s.held (line_in line s b)) b gone) in record { dirty = h.0; values = h.1; code = h.2 })

  pub touch-left_clean : (a b : ℕ) → s.dirty b ≡ false → IsLeft s (touch_at line format s a) b
  unfolding hit miss
  touch-left_clean a b clean = touch_by a (λ t. IsLeft s t b) (λ here. record { dirty = refl; values = refl; code = refl })
      (λ gone. let h = write_back_line-keeps_clean format s (line_in line s a) b clean in record { dirty = h.0 ∙ sym clean; values = h.1; code = h.2 })

  -- the dirty block in the line that is taken is written back
  pub touch-evicts : (a b : ℕ) → is_at line s a ≡ false → s.held (line_in line s a) ≡ Some b → s.dirty b ≡ true → IsRounded format s (touch_at line format s a) b
  unfolding miss
  touch-evicts a b away held dirty = touch_by a (λ t. IsRounded format s t b) (λ here. true_is_not_false (is_at line s a) here away)
      (λ gone. let h = write_back_line-rounded format s (line_in line s a) b held dirty in record { clean = h.clean; values = h.values; code = h.code })

  pub touch_for_writing-dirty : (b : ℕ) → (touch_for_writing_at line format s b).dirty b ≡ true
  unfolding touch_for_writing_at soiled
  touch_for_writing-dirty b = with_at-same (touch_at line format s b).dirty b true

-- where each block has one line, it is here after the touch
pub touch-is_here : {Code : Type 0} (format : Format Code) (s : State Code) (b : ℕ) → is_here (touch format s b) b ≡ true
touch-is_here format s b =
    is_block-some _ b (ap (λ n. (touch format s b).held (b % n)) (touch-lines direct format s b) ∙ touch-here direct format s b)
