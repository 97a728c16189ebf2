-- What becomes of the state that a cache and its backing stand for, when a line changes. The number of lines is n, and the line of
-- block b is `place n tags b`.
use Rattle.std.proofs.Common.{◌≡◌, ◌≢◌, ◌⊎◌, inl, inr, refl, sym, ap, subst, ◌∙◌, ℕ, ◌+◌, ◌/◌, ◌<◌, ◌==◌, ℤ, Bool, true, false, Option, Some, None, List, [], map, length, set, eq-eqb, rules}
use Rattle.std.proofs.lemmas.Bool.{ne_eqb, cases_eq}
use Rattle.std.proofs.lemmas.List.{get_or-set_same, get_or-set_other}
use Rattle.zf_base.specs.Formats.{Format, existing_of, meant, encoded, with_at}
use Rattle.zf_base.proofs.Formats.{with_at-same, with_at-other, encoded-existing_of}
use Rattle.zf_cached.{specs.State.{Counts, State, is_block, risen}, proofs.States.{same_state}}
use Rattle.zf_cached.specs.Touch.{write_back, write_back_dirty, write_back_line, soiled, with_values}
use Rattle.zf_cached.proofs.Caching.{is_block-some, write_back_line_by}
use Rattle.zf_lines.specs.Rows.{line_at}
use Rattle.zf_cache.specs.Kept.{IsIn, IsAway, tag_at, block_in, clean_tag, dirty_tag, dirty_of, one_line}
use Rattle.zf_cache.{specs.Rules.{IsRule}, specs.Standing.{evicted}, specs.Steps.{taken_in}}
use Rattle.zf_cache.proofs.Tags.{even, is_or_not, names, named, names-clean, names-dirty, is_block-other, dirty_of-some, dirty_of-none, tag-set_same, tag-set_other}

-- ---- the definitions of write-back, case by case

module _ {Code : Type 0} (format : Format Code) (s : State Code) where
  pub write_back_line-none : (l : ℕ) → s.held l ≡ None → write_back_line format s l ≡ s
  unfolding write_back_line
  write_back_line-none l e = ap (λ (o : Option ℕ). elim o [ None ↦ s | Some b ↦ write_back_dirty format s b ]) e

  pub write_back_line-some : (l b : ℕ) → s.held l ≡ Some b → write_back_line format s l ≡ write_back_dirty format s b
  unfolding write_back_line
  write_back_line-some l b e = ap (λ (o : Option ℕ). elim o [ None ↦ s | Some a ↦ write_back_dirty format s a ]) e

  pub write_back_dirty-false : (b : ℕ) → s.dirty b ≡ false → write_back_dirty format s b ≡ s
  unfolding write_back_dirty
  write_back_dirty-false b e = ap (λ (t : Bool). elim t [ true ↦ write_back format s b | false ↦ s ]) e

  pub write_back_dirty-true : (b : ℕ) → s.dirty b ≡ true → write_back_dirty format s b ≡ write_back format s b
  unfolding write_back_dirty
  write_back_dirty-true b e = ap (λ (t : Bool). elim t [ true ↦ write_back format s b | false ↦ s ]) e

module _ (place : ℕ → List ℕ → ℕ → ℕ) {X Code : Type 0} (value : X → ℤ) (f : Format Code) (n : ℕ) where
  abbrev pub in_line : List (List X) → ℕ → ℕ → List ℤ
  in_line lines l b = existing_of f b (map value (line_at lines l))

  abbrev pub vals : List (List X) → List ℕ → (ℕ → Code) → ℕ → List ℤ
  vals lines tags k b =
      elim (is_block (block_in (tag_at tags (place n tags b))) b) [ true ↦ in_line lines (place n tags b) b | false ↦ meant f b (k b) ]

  abbrev pub soiled_in : List ℕ → ℕ → Bool
  soiled_in tags b = tag_at tags (place n tags b) == dirty_tag b

  -- the state of lines, tags, counts and codes
  abbrev pub standing_at : List (List X) → List ℕ → Counts → (ℕ → Code) → State Code
  standing_at lines tags counts k = record {
    lines = n;
    held = λ l. block_in (tag_at tags l);
    dirty = soiled_in tags;
    values = vals lines tags k;
    codes = k;
    counts = counts;
  }

  -- each block in a line is where it is looked for
  abbrev pub IsPlaced : List ℕ → Type 0
  IsPlaced tags = (l b : ℕ) → IsIn tags l b → place n tags b ≡ l

  pub record Fit (lines : List (List X)) (tags : List ℕ) (k : ℕ → Code) : Type 0 where
    pub own : (l b : ℕ) → IsIn tags l b → (place n tags b ≡ l) × (b < f.blocks)
    pub clean : (l b : ℕ) → tag_at tags l ≡ clean_tag b → in_line lines l b ≡ meant f b (k b)

  -- a block that is in line l: its values, and whether it is dirty
  pub vals-in : (lines : List (List X)) (tags : List ℕ) (k : ℕ → Code) (b l : ℕ) → place n tags b ≡ l → IsIn tags l b → vals lines tags k b ≡ in_line lines l b
  vals-in lines tags k b l at is = search (rules, is_block-some)

  pub dirty-in : (tags : List ℕ) (b l : ℕ) → place n tags b ≡ l → soiled_in tags b ≡ (tag_at tags l == dirty_tag b)
  dirty-in tags b l at = ap (λ j. tag_at tags j == dirty_tag b) at

  -- one that is in no line
  pub vals-out : (lines : List (List X)) (tags : List ℕ) (k : ℕ → Code) (b : ℕ) → (IsIn tags (place n tags b) b → ⊥) → vals lines tags k b ≡ meant f b (k b)
  vals-out lines tags k b ne = ap (λ (t : Bool). elim t [ true ↦ in_line lines (place n tags b) b | false ↦ meant f b (k b) ]) (is_block-other _ b ne)

  pub dirty-out : (tags : List ℕ) (b : ℕ) → (IsIn tags (place n tags b) b → ⊥) → soiled_in tags b ≡ false
  dirty-out tags b ne = ne_eqb (tag_at tags (place n tags b)) (dirty_tag b) (λ e. ne (ap block_in e ∙ names-dirty b))

  -- a block that is not where it is looked for is in no line
  pub away : (tags : List ℕ) → IsPlaced tags → (b : ℕ) → (IsIn tags (place n tags b) b → ⊥) → IsAway tags b
  away tags placed b ne l is = ne (ap (λ j. block_in (tag_at tags j)) (placed l b is) ∙ is)

  -- a block is in line l, in another, or in none
  module _ (tags : List ℕ) (placed : IsPlaced tags) (l b : ℕ) where
    pub record IsElsewhere : Type 0 where
      pub line : ℕ
      pub other : line ≢ l
      pub there : IsIn tags line b

    pub whereabouts : IsIn tags l b ⊎ (IsElsewhere ⊎ IsAway tags b)
    whereabouts = elim (is_or_not (block_in (tag_at tags (place n tags b))) b) [
      | inl is ↦ elim (cases_eq (place n tags b) l) [
        | inl at ↦ inl (ap (λ j. block_in (tag_at tags j)) (sym at) ∙ is)
        | inr ne ↦ inr (inl (record { line = place n tags b; other = ne; there = is }))
      ]
      | inr ne ↦ inr (inr (away tags placed b ne))
    ]

  -- a block that is not dirty has what its code means
  module _ (lines : List (List X)) (tags : List ℕ) (k : ℕ → Code) (fit : Fit lines tags k) where
    pub undirty_values : (b : ℕ) → tag_at tags (place n tags b) ≢ dirty_tag b → vals lines tags k b ≡ meant f b (k b)
    undirty_values b clean = search (rules, is_or_not, vals-in, even, named, vals-out)

    pub placed_of : IsPlaced tags
    placed_of l b is = (fit.own l b is).0

  -- what changes in a line leaves a block that is in another, and one that is in none before and after
  module _ (lines lines' : List (List X)) (tags tags' : List ℕ) (k k' : ℕ → Code) (b : ℕ) (same : k' b ≡ k b) where
    pub vals-stay : (l : ℕ) → place n tags b ≡ l → place n tags' b ≡ l → IsIn tags l b → tag_at tags' l ≡ tag_at tags l → line_at lines' l ≡ line_at lines l
        → vals lines' tags' k' b ≡ vals lines tags k b
    vals-stay l at at' is tag row = search (rules, vals-in)

    pub vals-away : IsAway tags b → IsAway tags' b → vals lines' tags' k' b ≡ vals lines tags k b
    vals-away out out' = vals-out lines' tags' k' b (out' (place n tags' b)) ∙ ap (meant f b) same ∙ sym (vals-out lines tags k b (out (place n tags b)))

  pub dirty-stay : (tags tags' : List ℕ) (b l : ℕ) → place n tags b ≡ l → place n tags' b ≡ l → tag_at tags' l ≡ tag_at tags l → soiled_in tags' b ≡ soiled_in tags b
  dirty-stay tags tags' b l at at' tag = dirty-in tags' b l at' ∙ ap (λ t. t == dirty_tag b) tag ∙ sym (dirty-in tags b l at)

  pub dirty-away : (tags tags' : List ℕ) (b : ℕ) → IsAway tags b → IsAway tags' b → soiled_in tags' b ≡ soiled_in tags b
  dirty-away tags tags' b out out' = dirty-out tags' b (out' (place n tags' b)) ∙ sym (dirty-out tags b (out (place n tags b)))

  module _ (may_hold : ℕ → ℕ → ℕ → Type 0) (rule : IsRule place may_hold) where
    -- where each block was in the same line before, it is found again
    pub still_placed : (tags tags' : List ℕ) → IsPlaced tags → ((l b : ℕ) → IsIn tags' l b → IsIn tags l b) → IsPlaced tags'
    still_placed tags tags' placed was l b is =
        rule.found n tags' b l (subst (may_hold n b) (placed l b (was l b is)) (rule.allowed n tags b)) is (λ m there. sym (placed m b (was m b there)) ∙ placed l b (was l b is))

    module _ (lines : List (List X)) (tags : List ℕ) (counts : Counts) (k : ℕ → Code) (fit : Fit lines tags k) (l : ℕ) (lt : l < length tags) where
      abbrev s : State Code
      s = standing_at lines tags counts k

      abbrev placed : IsPlaced tags
      placed = placed_of lines tags k fit

      abbrev emptied : List ℕ
      emptied = set tags l 0

      none_named : (b : ℕ) → block_in 0 ≢ Some b
      none_named b e = cc

      tag-emptied : tag_at emptied l ≡ 0
      tag-emptied = tag-set_same tags l 0 lt

      -- who is in a line after it, was there before, and the line is another
      gone : (m b : ℕ) → IsIn emptied m b → m ≢ l
      gone m b e at = none_named b (sym (ap block_in (ap (tag_at emptied) at ∙ tag-emptied)) ∙ e)

      was_in : (m b : ℕ) → IsIn emptied m b → IsIn tags m b
      was_in m b e = sym (ap block_in (tag-set_other tags l 0 m (gone m b e))) ∙ e

      placed-emptied : IsPlaced emptied
      placed-emptied = still_placed tags emptied placed was_in

      -- the block of the line is in no line after it
      out-emptied : (b : ℕ) → IsIn tags l b → IsAway emptied b
      out-emptied b is m e = gone m b e (sym (placed m b (was_in m b e)) ∙ placed l b is)

      away-emptied : (b : ℕ) → IsAway tags b → IsAway emptied b
      away-emptied b out m e = out m (was_in m b e)

      emptied-held : (m : ℕ) → block_in (tag_at emptied m) ≡ with_at s.held l None m
      emptied-held m = search (rules, cases_eq, tag-emptied, with_at-same, tag-set_other, with_at-other)

      -- a block in another line stays there
      still-in : (m b : ℕ) → m ≢ l → IsIn tags m b → place n emptied b ≡ m
      still-in m b ne is = placed-emptied m b (ap block_in (tag-set_other tags l 0 m ne) ∙ is)

      elsewhere-dirty : (m b : ℕ) → m ≢ l → IsIn tags m b → soiled_in emptied b ≡ soiled_in tags b
      elsewhere-dirty m b ne is = dirty-stay tags emptied b m (placed m b is) (still-in m b ne is) (tag-set_other tags l 0 m ne)

      elsewhere-values : (k' : ℕ → Code) (m b : ℕ) → m ≢ l → IsIn tags m b → k' b ≡ k b → vals lines emptied k' b ≡ vals lines tags k b
      elsewhere-values k' m b ne is same = vals-stay lines lines tags emptied k k' b same m (placed m b is) (still-in m b ne is) is (tag-set_other tags l 0 m ne) refl

      -- a line is emptied whose block is not dirty
      module _ (none : dirty_of (tag_at tags l) ≡ None) where
        not_dirty : (b : ℕ) → place n tags b ≡ l → tag_at tags (place n tags b) ≢ dirty_tag b
        not_dirty b at e = dirty_of-none (tag_at tags l) b none (ap (tag_at tags) (sym at) ∙ e)

        undirty : (b : ℕ) → IsIn tags l b → soiled_in tags b ≡ false
        undirty b is = ne_eqb (tag_at tags (place n tags b)) (dirty_tag b) (not_dirty b (placed l b is))

        kept-back : write_back_line f s l ≡ s
        kept-back = write_back_line_by f s l (λ t. t ≡ s) (λ b e dirty. absurd (let clean = undirty b e in cc)) (λ b e dirty. refl) (λ e. refl)

        clean-dirty : (b : ℕ) → soiled_in emptied b ≡ soiled_in tags b
        clean-dirty b = search (rules, whereabouts, dirty-out, out-emptied, undirty, elsewhere-dirty, dirty-away, away-emptied)

        clean-values : (b : ℕ) → vals lines emptied k b ≡ vals lines tags k b
        clean-values b = search (rules, whereabouts, vals-out, out-emptied, undirty_values, not_dirty, elsewhere-values, vals-away, away-emptied)

        pub empties_clean : standing_at lines emptied counts k ≡ evicted f s l
        unfolding evicted
        empties_clean = search (rules, same_state, emptied-held, clean-dirty, clean-values, kept-back)

      pub fits_emptied : (k' : ℕ → Code) → ((b : ℕ) → (IsIn tags l b → ⊥) → k' b ≡ k b) → Fit lines emptied k'
      fits_emptied k' same = record {
        own = λ m b e. (placed-emptied m b e, (fit.own m b (was_in m b e)).1);
        clean = λ m b e.
            let is = ap block_in e ∙ names-clean b in
            let ne = gone m b is in
            fit.clean m b (sym (tag-set_other tags l 0 m ne) ∙ e) ∙ ap (meant f b) (sym (same b (λ at. out-emptied b at m is)));
      }

      -- a line is emptied whose block was written back
      module _ (b : ℕ) (is : tag_at tags l ≡ dirty_tag b) where
        abbrev code : Code
        code = encoded f b (map value (line_at lines l))

        abbrev k' : ℕ → Code
        k' = with_at k b code

        there : IsIn tags l b
        there = ap block_in is ∙ names-dirty b

        own : place n tags b ≡ l
        own = placed l b there

        was-dirty : s.dirty b ≡ true
        was-dirty = eq-eqb (tag_at tags (place n tags b)) (dirty_tag b) (ap (tag_at tags) own ∙ is)

        was-values : s.values b ≡ in_line lines l b
        was-values = vals-in lines tags k b l own there

        same-code : encoded f b (s.values b) ≡ code
        same-code = ap (encoded f b) was-values ∙ encoded-existing_of f b (map value (line_at lines l))

        written-back : write_back_line f s l ≡ write_back f s b
        written-back = write_back_line-some f s l b there ∙ write_back_dirty-true f s b was-dirty

        only : (a : ℕ) → IsIn tags l a → a ≡ b
        only a e = let both : Some a ≡ Some b = sym e ∙ there in cc

        other : (a m : ℕ) → m ≢ l → IsIn tags m a → a ≢ b
        other a m ne e same = ne (sym (placed m a e) ∙ ap (place n tags) same ∙ own)

        apart : (a : ℕ) → IsAway tags a → a ≢ b
        apart a out same = out l (there ∙ ap Some (sym same))

        soiled-dirty : (a : ℕ) → soiled_in emptied a ≡ with_at s.dirty b false a
        soiled-dirty a = search (rules, whereabouts, dirty-out, out-emptied, with_at-same, only, elsewhere-dirty, with_at-other, other)

        soiled-values : (a : ℕ) → vals lines emptied k' a ≡ with_at s.values b (meant f b (encoded f b (s.values b))) a
        soiled-values a = search (rules, whereabouts, only, vals-out, out-emptied, with_at-same, same-code, elsewhere-values, with_at-other, other, vals-away, away-emptied, apart)

        pub empties_dirty : standing_at lines emptied (record counts { writes = risen counts.writes }) k' ≡ evicted f s l
        unfolding evicted write_back
        empties_dirty = search (rules, same_state, emptied-held, soiled-dirty, soiled-values, same-code, written-back)

        pub fits_dirty : Fit lines emptied k'
        fits_dirty = fits_emptied k' (λ a off. with_at-other k b code a (λ e. off (there ∙ ap Some (sym e))))

      -- a line is emptied, with the dirty block in it written back
      abbrev pub codes_after : Option ℕ → ℕ → Code
      codes_after None = k
      codes_after (Some b) = with_at k b (encoded f b (map value (line_at lines l)))

      abbrev pub counts_after : Option ℕ → Counts
      counts_after None = counts
      counts_after (Some b) = record counts { writes = risen counts.writes }

      pub empties : (o : Option ℕ) → dirty_of (tag_at tags l) ≡ o → standing_at lines emptied (counts_after o) (codes_after o) ≡ evicted f s l
      empties None e = empties_clean e
      empties (Some b) e = empties_dirty b (dirty_of-some (tag_at tags l) b e)

      pub fits_after : (o : Option ℕ) → dirty_of (tag_at tags l) ≡ o → Fit lines emptied (codes_after o)
      fits_after None e = fits_emptied k (λ b off. refl)
      fits_after (Some b) e = fits_dirty b (dirty_of-some (tag_at tags l) b e)

      -- the block that is written back is one of the backing's
      pub dirty_below : (b : ℕ) → dirty_of (tag_at tags l) ≡ Some b → b < f.blocks
      dirty_below b e = (fit.own l b (ap block_in (dirty_of-some (tag_at tags l) b e) ∙ names-dirty b)).1

      -- ---- the values in line l change

      module _ (b : ℕ) (here : l < length lines) (row : List X) where
        abbrev rows : List (List X)
        rows = set lines l row

        row-same : line_at rows l ≡ row
        row-same = get_or-set_same lines l row [] here

        row-other : (m : ℕ) → m ≢ l → line_at rows m ≡ line_at lines m
        row-other m ne = get_or-set_other lines l m row [] ne

        -- ---- block b, which is in no line, goes into line l, which is empty

        module _ (may : may_hold n b l) (zero_there : tag_at tags l ≡ 0) (none : IsAway tags b) (loaded : existing_of f b (map value row) ≡ meant f b (k b)) where
          abbrev tags' : List ℕ
          tags' = set tags l (clean_tag b)

          tag-same : tag_at tags' l ≡ clean_tag b
          tag-same = tag-set_same tags l (clean_tag b) lt

          tag-other : (m : ℕ) → m ≢ l → tag_at tags' m ≡ tag_at tags m
          tag-other m ne = tag-set_other tags l (clean_tag b) m ne

          is-in : IsIn tags' l b
          is-in = ap block_in tag-same ∙ names-clean b

          only-in : (a : ℕ) → IsIn tags' l a → a ≡ b
          only-in a e = let both : Some a ≡ Some b = sym e ∙ is-in in cc

          before : (m a : ℕ) → m ≢ l → IsIn tags' m a → IsIn tags m a
          before m a ne e = sym (ap block_in (tag-other m ne)) ∙ e

          nowhere : (a : ℕ) → IsIn tags l a → ⊥
          nowhere a e = none_named a (sym (ap block_in zero_there) ∙ e)

          placed-taken : IsPlaced tags'
          placed-taken m a e = elim (cases_eq m l) [
            | inl at ↦
                let is : a ≡ b = only-in a (ap (λ j. block_in (tag_at tags' j)) (sym at) ∙ e) in
                ap (place n tags') is ∙ rule.found n tags' b l may is-in (λ j there. elim (cases_eq j l) [ inl same ↦ same | inr off ↦ absurd (none j (before j b off there)) ]) ∙ sym at
            | inr off ↦
                let was = before m a off e in
                rule.found n tags' a m (subst (may_hold n a) (placed m a was) (rule.allowed n tags a)) e (λ j there. elim (cases_eq j l) [
                  | inl same ↦
                      let is : a ≡ b = only-in a (ap (λ j. block_in (tag_at tags' j)) (sym same) ∙ there) in
                      absurd (none m (was ∙ ap Some is))
                  | inr ne ↦ sym (placed j a (before j a ne there)) ∙ placed m a was
                ])
          ]

          in-after : in_line rows l b ≡ meant f b (k b)
          in-after = ap (λ r. existing_of f b (map value r)) row-same ∙ loaded

          again : (m a : ℕ) → m ≢ l → IsIn tags m a → place n tags' a ≡ m
          again m a ne e = placed-taken m a (ap block_in (tag-other m ne) ∙ e)

          taken-dirty : (a : ℕ) → soiled_in tags' a ≡ soiled_in tags a
          taken-dirty a = search (rules, whereabouts, nowhere, dirty-stay, again, tag-other, cases_eq, dirty-in, placed-taken)

          taken-values : (a : ℕ) → vals rows tags' k a ≡ vals lines tags k a
          taken-values a = search (rules, whereabouts, nowhere, vals-stay, again, tag-other, row-other, cases_eq, vals-in)

          pub takes_in : standing_at rows tags' (record counts { misses = risen counts.misses }) k ≡ taken_in s l b
          unfolding taken_in
          takes_in = search (rules, same_state, cases_eq, is-in, with_at-same, tag-other, with_at-other, taken-dirty, taken-values)

          pub fits_taken : b < f.blocks → Fit rows tags' k
          fits_taken below = record {
            own = λ m a e. (
              placed-taken m a e,
              elim (cases_eq m l) [
                | inl at ↦ subst (λ j. j < f.blocks) (sym (only-in a (ap (λ j. block_in (tag_at tags' j)) (sym at) ∙ e))) below
                | inr off ↦ (fit.own m a (before m a off e)).1
              ],
            );
            clean = λ m a e. search (rules, cases_eq, tag-same, in-after, row-other, tag-other);
          }

        -- ---- what is written through a loan of the dirty block b

        module _ (is : tag_at tags l ≡ dirty_tag b) where
          in-it : IsIn tags l b
          in-it = ap block_in is ∙ names-dirty b

          pub writes : standing_at rows tags counts k ≡ with_values s b (existing_of f b (map value row))
          unfolding with_values
          writes = search (rules, same_state, cases_eq, vals-in, in-it, row-same, with_at-same, whereabouts, vals-stay, row-other, vals-away, with_at-other)

          pub fits_written : Fit rows tags k
          fits_written = search (rules, own, cases_eq, row-other)

      -- ---- block b, which is in line l, becomes dirty

      module _ (b : ℕ) (half : tag_at tags l / 2 ≡ b + 1) where
        abbrev marked : List ℕ
        marked = set tags l (dirty_tag b)

        mark-same : tag_at marked l ≡ dirty_tag b
        mark-same = tag-set_same tags l (dirty_tag b) lt

        mark-other : (m : ℕ) → m ≢ l → tag_at marked m ≡ tag_at tags m
        mark-other m ne = tag-set_other tags l (dirty_tag b) m ne

        held-here : IsIn tags l b
        held-here = names (tag_at tags l) b half

        same-block : (m : ℕ) → block_in (tag_at marked m) ≡ block_in (tag_at tags m)
        same-block m = search (rules, cases_eq, mark-same, names-dirty, held-here, mark-other)

        placed-marked : IsPlaced marked
        placed-marked = still_placed tags marked placed (λ m a e. sym (same-block m) ∙ e)

        now-in : (m a : ℕ) → IsIn tags m a → place n marked a ≡ m
        now-in m a e = placed-marked m a (same-block m ∙ e)

        marked-dirty : (a : ℕ) → soiled_in marked a ≡ with_at s.dirty b true a
        marked-dirty a = search (rules, cases_eq, dirty-in, now-in, held-here, eq-eqb, mark-same, with_at-same, whereabouts, dirty-stay, mark-other, dirty-away, same-block, with_at-other)

        marked-values : (a : ℕ) → vals lines marked k a ≡ vals lines tags k a
        marked-values a = search (rules, is_or_not, vals-in, now-in, same-block, away, vals-away)

        pub soils : standing_at lines marked counts k ≡ soiled s b
        unfolding soiled
        soils = same_state (standing_at lines marked counts k) (record s { dirty = with_at s.dirty b true }) refl same-block marked-dirty marked-values (λ a. refl) refl

        pub fits_soiled : Fit lines marked k
        fits_soiled = record {
          own = λ m a e. (placed-marked m a e, (fit.own m a (sym (same-block m) ∙ e)).1);
          clean = λ m a e. search (rules, cases_eq, mark-same, mark-other);
        }

-- where each block has one line
abbrev pub standing : {X Code : Type 0} → (X → ℤ) → Format Code → ℕ → List (List X) → List ℕ → Counts → (ℕ → Code) → State Code
standing value f n = standing_at one_line value f n
