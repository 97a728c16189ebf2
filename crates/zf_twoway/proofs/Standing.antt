-- Two-way caches that fit, in the words of two lines.
use Rattle.std.proofs.Common.{◌≡◌, refl, sym, ap, subst, ◌∙◌, ℕ, ◌==◌, Bool, true, false, ◌||◌, inl, inr, ℤ, Some, None, length, replicate}
use Rattle.std.{proofs.lemmas.Bool.{ne_eqb}, proofs.lemmas.List.{length-replicate}}
use Rattle.zf_base.specs.Formats.{Format, meant}
use Rattle.zf_cached.{specs.State.{no_counts}, specs.Changes.{opened}, proofs.States.{same_state}}
use Rattle.zf_cache.specs.Kept.{Kept, IsEmpty, IsIn, IsAway, tag_at, block_in, dirty_tag, line_by}
use Rattle.zf_cache.specs.Standing.{line_values, values_by, state_at}
use Rattle.zf_cache.proofs.Tags.{names-dirty, is_or_not}
use Rattle.zf_cache.proofs.Stands.{standing_at, vals-in, vals-out, dirty-in, dirty-out}
use Rattle.zf_cache.proofs.Touches.{no_tag, state_stands, all_meant_at}
use Rattle.zf_twoway.specs.Standing.{is_dirty, state_of, Fits, HasTwoLines}
use Rattle.zf_twoway.specs.Placing.{first_line, second_line, skewed, either, skewed-first, skewed-second, IsOneOfTwo, skewed_rule}

-- ---- the three facts, and where blocks are looked for

module _ {X Code : Type 0} (value : X → ℤ) (c : Kept X) (f : Format Code) (k : ℕ → Code) where
  pub fits_at : HasTwoLines value c f k → Fits value c f k
  fits_at fits = record {
    own = λ l b is.
        let own = fits.own l b is in
        (skewed_rule.found (length c.tags) c.tags b l own.0 is (λ m there. fits.once m l b there is), own.1);
    clean = fits.clean;
  }

  pub fits_of : Fits value c f k → HasTwoLines value c f k
  fits_of fits = record {
    own = λ l b is.
        let own = fits.own l b is in
        (subst (IsOneOfTwo (length c.tags) b) own.0 (skewed_rule.allowed (length c.tags) c.tags b), own.1);
    once = λ l m b is there. sym (fits.own l b is).0 ∙ (fits.own m b there).0;
    clean = fits.clean;
  }

  pub values_stand : (b : ℕ) → (state_of value c f k).values b ≡ values_by skewed value c f k b
  unfolding state_at
  values_stand b = refl

-- ---- what the lines tell of a block

module _ {X Code : Type 0} (value : X → ℤ) (c : Kept X) (f : Format Code) (k : ℕ → Code) where
  pub told_in : (l b : ℕ) → Fits value c f k → IsIn c.tags l b
      → ((state_of value c f k).values b ≡ line_values value c f l b) × ((state_of value c f k).dirty b ≡ (tag_at c.tags l == dirty_tag b))
  unfolding state_at
  told_in l b fits is =
      let at = (fits.own l b is).0 in
      (vals-in skewed value f (length c.tags) c.lines c.tags k b l at is, dirty-in skewed value f (length c.tags) c.tags b l at)

  pub told_away : (b : ℕ) → IsAway c.tags b → ((state_of value c f k).values b ≡ meant f b (k b)) × ((state_of value c f k).dirty b ≡ false)
  unfolding state_at
  told_away b out =
      let none = out (line_by skewed c b) in
      (vals-out skewed value f (length c.tags) c.lines c.tags k b none, dirty-out skewed value f (length c.tags) c.tags b none)

  not_dirty : (l b : ℕ) → (IsIn c.tags l b → ⊥) → (tag_at c.tags l == dirty_tag b) ≡ false
  not_dirty l b out = ne_eqb (tag_at c.tags l) (dirty_tag b) (λ e. out (ap block_in e ∙ names-dirty b))

  or_false : (x : Bool) → x ≡ (x || false)
  or_false true = refl
  or_false false = refl

  or_same : (x : Bool) → x ≡ (x || x)
  or_same true = refl
  or_same false = refl

  pub told_dirty : (b : ℕ) → Fits value c f k
      → is_dirty c b ≡ ((tag_at c.tags (first_line (length c.tags) b) == dirty_tag b) || (tag_at c.tags (second_line (length c.tags) b) == dirty_tag b))
  told_dirty b fits = let one = first_line (length c.tags) b in let two = second_line (length c.tags) b in elim (is_or_not (block_in (tag_at c.tags one)) b) [
    | inl is ↦ ap (λ l. tag_at c.tags l == dirty_tag b) (skewed-first (length c.tags) c.tags b is) ∙ elim (is_or_not (block_in (tag_at c.tags two)) b) [
      | inl both ↦ or_same (tag_at c.tags one == dirty_tag b) ∙ ap (λ l. (tag_at c.tags one == dirty_tag b) || (tag_at c.tags l == dirty_tag b)) (sym (fits.own one b is).0 ∙ (fits.own two b both).0)
      | inr out ↦ or_false (tag_at c.tags one == dirty_tag b) ∙ ap (λ x. (tag_at c.tags one == dirty_tag b) || x) (sym (not_dirty two b out))
    ]
    | inr out ↦ elim (is_or_not (block_in (tag_at c.tags two)) b) [
      | inl is ↦ ap (λ l. tag_at c.tags l == dirty_tag b) (skewed-second (length c.tags) c.tags b out is) ∙ ap (λ x. x || (tag_at c.tags two == dirty_tag b)) (sym (not_dirty one b out))
      | inr none ↦ not_dirty (line_by skewed c b) b (either (λ l. IsIn c.tags l b → ⊥) (length c.tags) c.tags b out none)
          ∙ (λ i. sym (not_dirty one b out) i || sym (not_dirty two b none) i)
    ]
  ]

-- ---- an empty cache

pub opens : {X Code : Type 0} (value : X → ℤ) (c : Kept X) (f : Format Code) (k : ℕ → Code) (n : ℕ) → IsEmpty c n → c.counts ≡ no_counts → state_of value c f k ≡ opened f k n
unfolding opened
opens {X} {Code} value c f k n empty counts =
    let none : ℕ = 0 in
    state_stands skewed value f c k n (ap length empty ∙ length-replicate n none)
    ∙ (λ i. standing_at skewed value f n c.lines (empty i) (counts i) k)
    ∙ same_state (standing_at skewed value f n c.lines (replicate n 0) no_counts k) (opened f k n) refl
    (λ l. ap block_in (no_tag n l)) (λ b. dirty-out skewed value f n (replicate n 0) b (nowhere b))
    (λ b. all_meant_at skewed value f n c.lines no_counts k b) (λ b. refl) refl
  where
    nowhere : (b : ℕ) → IsIn (replicate n 0) (skewed n (replicate n 0) b) b → ⊥
    nowhere b e = let both : None ≡ Some b = sym (ap block_in (no_tag n (skewed n (replicate n 0) b))) ∙ e in cc
