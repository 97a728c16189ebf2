-- Touches of a two-way cache, in the words of its two lines.
use Rattle.std.{specs.Prelude.{if◌then◌else◌}, specs.Int.{Width}}
use Rattle.std.proofs.Common.{◌≡◌, ◌⊎◌, inl, inr, refl, sym, ap, subst, ◌∙◌, ℕ, Bool, true, false, not, ◌||◌, Option, Some, None, is_none}
use Rattle.zf_base.specs.Formats.{Format}
use Rattle.zf_cached.{specs.State.{State, is_block}, specs.Placing.{line_in, is_at}, specs.Touch.{hit, miss}}
use Rattle.zf_cached.{specs.Fates.{IsLeft, IsRounded}, specs.Consistency.{IsCached}}
use Rattle.zf_cached.proofs.Arrays.{meant-zeros}
use Rattle.zf_cached.proofs.Caching.{true_is_not_false, write_back_line_by, is_block-true, is_block-some, touch_by, touch-lines, touch-here, touch-hit, touch-evicts}
use Rattle.zf_cache.proofs.Tags.{is_or_not}
use Rattle.zf_twoway.specs.Placing.{first_line, second_line, choice, IsOneOfTwo, two_lines, in_first, in_second, in_neither, two_placing}
use Rattle.zf_twoway.{specs.Touch.{is_clean_line, is_here, goes_to, touch}, specs.Runs.{twoway_setting}}

is_here-by : (first second : Option ℕ) (b : ℕ) → (first ≡ Some b) ⊎ (second ≡ Some b) → (is_block first b || is_block second b) ≡ true
is_here-by first second b (inl is) = ap (λ x. x || is_block second b) (is_block-some first b is)
is_here-by first second b (inr is) = ap (λ x. is_block first b || x) (is_block-some second b is) ∙ any (is_block first b)
  where
    any : (x : Bool) → (x || true) ≡ true
    any true = refl
    any false = refl

choice-clean : (P : ℕ → Type 0) (a b c d : Bool) (first second : ℕ) → (a ≡ true → P first) → (b ≡ true → P second) → (c ≡ true → P first) → (d ≡ true → P second)
    → (c ≡ true) ⊎ (d ≡ true) → P (choice a b c d first second)
choice-clean P true b c d first second p q r t one = p refl
choice-clean P false true c d first second p q r t one = q refl
choice-clean P false false true d first second p q r t one = r refl
choice-clean P false false false true first second p q r t one = t refl
choice-clean P false false false false first second p q r t (inl e) = cc
choice-clean P false false false false first second p q r t (inr e) = cc

module _ {Code : Type 0} (s : State Code) where
  -- ---- where a block is

  -- in a line that is one of its two
  here-at : (l b : ℕ) → IsOneOfTwo s.lines b l → s.held l ≡ Some b → is_here s b ≡ true
  here-at l b may is =
      is_here-by (s.held (first_line s.lines b)) (s.held (second_line s.lines b)) b (elim may [ inl e ↦ inl (ap s.held e ∙ is) | inr e ↦ inr (ap s.held e ∙ is) ])

  -- a block that is not here is in neither of its lines
  not_in : (l b : ℕ) → is_here s b ≡ false → IsOneOfTwo s.lines b l → s.held l ≡ Some b → ⊥
  not_in l b away may is = true_is_not_false (is_here s b) (here-at l b may is) away

  -- a block that is here is in its line
  in_its_line : (b : ℕ) → is_here s b ≡ true → s.held (line_in two_lines s b) ≡ Some b
  in_its_line b here = elim (is_or_not (s.held (first_line s.lines b)) b) [
    | inl first ↦ ap s.held (in_first s.lines s.held s.dirty b first) ∙ first
    | inr out ↦
        let second = by (is_block (s.held (first_line s.lines b)) b) refl out in
        ap s.held (in_second s.lines s.held s.dirty b out second) ∙ second
  ]
    where
      by : (x : Bool) → is_block (s.held (first_line s.lines b)) b ≡ x → (s.held (first_line s.lines b) ≡ Some b → ⊥) → s.held (second_line s.lines b) ≡ Some b
      by true is out = absurd (out (is_block-true (s.held (first_line s.lines b)) b is))
      by false is out = is_block-true (s.held (second_line s.lines b)) b (sym (ap (λ x. x || is_block (s.held (second_line s.lines b)) b) is) ∙ here)

  pub is_here-at : (b : ℕ) → is_at two_lines s b ≡ is_here s b
  is_here-at b = by (is_here s b) refl
    where
      by : (x : Bool) → is_here s b ≡ x → is_at two_lines s b ≡ x
      by true e = is_block-some (s.held (line_in two_lines s b)) b (in_its_line b e)
      by false e = no (is_at two_lines s b) refl
        where
          no : (x : Bool) → is_at two_lines s b ≡ x → is_at two_lines s b ≡ false
          no true is =
              true_is_not_false (is_here s b) (here-at (line_in two_lines s b) b (two_placing.allowed s.lines s.held s.dirty b) (is_block-true (s.held (line_in two_lines s b)) b is)) e
          no false is = is

  -- ---- into which line a block goes

  goes-line : (b : ℕ) → is_here s b ≡ false → line_in two_lines s b ≡ goes_to s b
  goes-line b away = in_neither s.lines s.held s.dirty b (not_in (first_line s.lines b) b away (inl refl)) (not_in (second_line s.lines b) b away (inr refl))

  empty-clean : (l : ℕ) → is_none (s.held l) ≡ true → is_clean_line s l ≡ true
  empty-clean l e = by (s.held l) refl
    where
      by : (o : Option ℕ) → s.held l ≡ o → is_clean_line s l ≡ true
      by None is = ap (λ (p : Option ℕ). elim p [ None ↦ true | Some b ↦ not (s.dirty b) ]) is
      by (Some b) is = let both : false ≡ true = sym (ap is_none is) ∙ e in cc

  -- where a line of the two has no dirty block, the block goes into such a line
  goes-clean : (b : ℕ) → (is_clean_line s (first_line s.lines b) ≡ true) ⊎ (is_clean_line s (second_line s.lines b) ≡ true) → is_clean_line s (goes_to s b) ≡ true
  goes-clean b one =
      let first = first_line s.lines b in let second = second_line s.lines b in
      choice-clean (λ l. is_clean_line s l ≡ true) (is_none (s.held first)) (is_none (s.held second)) (is_clean_line s first) (is_clean_line s second) first second
      (empty-clean first) (empty-clean second) (λ e. e) (λ e. e) one

  -- ---- what becomes of blocks

  module _ (format : Format Code) where
    pub touch-words : (b : ℕ) → touch format s b ≡ (if is_here s b then hit s else miss format s (goes_to s b) b)
    touch-words b =
        let By = λ (x : Bool). if x then hit s else miss format s (goes_to s b) b in
        touch_by two_lines format s b (λ t. t ≡ By (is_here s b)) (λ yes. sym (ap By (sym (is_here-at b) ∙ yes)))
        (λ no. let away = sym (is_here-at b) ∙ no in ap (λ l. miss format s l b) (goes-line b away) ∙ sym (ap By away))

    -- the block is here then
    pub touch-is_here : (b : ℕ) → is_here (touch format s b) b ≡ true
    touch-is_here b =
        let l = line_in two_lines s b in
        let may : IsOneOfTwo (touch format s b).lines b l = subst (λ n. IsOneOfTwo n b l) (sym (touch-lines two_lines format s b)) (two_placing.allowed s.lines s.held s.dirty b) in
        is_here-by ((touch format s b).held (first_line (touch format s b).lines b)) ((touch format s b).held (second_line (touch format s b).lines b)) b
        (elim may [ inl e ↦ inl (ap (touch format s b).held e ∙ touch-here two_lines format s b) | inr e ↦ inr (ap (touch format s b).held e ∙ touch-here two_lines format s b) ])

    pub touch-hits : (b : ℕ) → is_here s b ≡ true → touch format s b ≡ hit s
    touch-hits b here = touch-hit two_lines format s b (is_here-at b ∙ here)

    -- the dirty block in the line that is taken is written back
    pub touch-rounds : (a b : ℕ) → is_here s a ≡ false → s.held (goes_to s a) ≡ Some b → s.dirty b ≡ true → IsRounded format s (touch format s a) b
    touch-rounds a b away held dirty = touch-evicts two_lines format s a b (is_here-at a ∙ away) (ap s.held (goes-line a away) ∙ held) dirty

    -- no block is written back where one of the two lines has no dirty one
    pub touch-spares : (a b : ℕ) → (is_clean_line s (first_line s.lines a) ≡ true) ⊎ (is_clean_line s (second_line s.lines a) ≡ true) → IsLeft s (touch format s a) b
    unfolding hit miss
    touch-spares a b one = touch_by two_lines format s a (λ t. IsLeft s t b) (λ here. record { dirty = refl; values = refl; code = refl }) (λ no.
        let away = sym (is_here-at a) ∙ no in
        let l = line_in two_lines s a in
        let spared : is_clean_line s l ≡ true = ap (is_clean_line s) (goes-line a away) ∙ goes-clean a one in
        let h = write_back_line_by format s l (λ t. IsLeft s t b)
        (λ c held dirty. true_is_not_false (is_clean_line s l) spared (soiled_line l c held dirty))
        (λ c held clean. record { dirty = refl; values = refl; code = refl }) (λ nothing. record { dirty = refl; values = refl; code = refl }) in
        record { dirty = h.dirty; values = h.values; code = h.code })
      where
        soiled_line : (l c : ℕ) → s.held l ≡ Some c → s.dirty c ≡ true → is_clean_line s l ≡ false
        soiled_line l c held dirty =
            ap (λ (o : Option ℕ). elim o [ None ↦ true | Some n ↦ not (s.dirty n) ]) held
            ∙ ap not dirty

pub twoway-cached : (w : Width) (budget : ℕ) → IsCached two_lines (twoway_setting w budget)
unfolding twoway_setting
twoway-cached w budget = record { touches = refl; zero = meant-zeros w budget }
