-- Touches, write-backs and changes keep what holds of every state, whatever the placing.
use Rattle.std.proofs.Common.{◌≡◌, refl, sym, ap, subst, ◌∙◌, ℕ, zero, suc, ◌+◌, ◌<◌, ◌≤◌, min, ℤ, Bool, true, false, List, Option, Some, None, arith, rules}
use Rattle.std.proofs.lemmas.Bool.{false_from_ne_true}
use Rattle.zf_base.specs.Formats.{Format, existing_of, meant, encoded, with_at}
use Rattle.zf_base.proofs.Formats.{with_at-same, with_at-other, existing_of-meant}
use Rattle.zf_cached.{specs.State.{State, most_counted}, specs.Fates.{IsLeft, IsRounded}}
use Rattle.zf_cached.specs.Touch.{write_back, write_back_line, hit, miss, touch_at, soiled, touch_for_writing_at, with_values}
use Rattle.zf_cached.specs.Changes.{write_back_lines, emptied, flush, discard, relined, opened, zeros, resized}
use Rattle.zf_cached.{specs.Unwritten.{holds_dirty, dirty_lines}, specs.Placing.{Line, IsPlacing, line_in}}
use Rattle.zf_cached.specs.Consistency.{IsConsistent, IsEmpty}
use Rattle.zf_cached.proofs.Caching.{true_is_not_false, at_change, is_block-true, is_block-false, write_back_line_by, write_back_line-lines, write_back_line-held, write_back_line-clean, write_back_line-other, touch_by, touch-here}
use Rattle.zf_cached.proofs.Flushing.{write_back_lines-lines, write_back_lines-held, write_back_lines-clean, flush-dirty_codes, flush-clean, discard-empty, discard-values_by}

-- ---- a touch, by whether the block is in its line

module _ {Code : Type 0} (line : Line) (format : Format Code) (s : State Code) (b : ℕ) where
  abbrev l : ℕ
  l = line_in line s b

  pub touch_at_by : (P : State Code → Type 0) → (s.held l ≡ Some b → P (hit s)) → ((s.held l ≡ Some b → ⊥) → P (miss format s l b)) → P (touch_at line format s b)
  touch_at_by P here away = touch_by line format s b P (λ yes. here (is_block-true (s.held l) b yes)) (λ no. away (is_block-false (s.held l) b no))

one_more : (w d x most : ℕ) → x ≡ min (w + d) most → min (x + 1) most ≡ min (w + (d + 1)) most
one_more w d x most e = omega (arith, e)

-- ---- what holds of every state

module _ (line : Line) (may_hold : ℕ → ℕ → ℕ → Type 0) (placing : IsPlacing line may_hold) {Code : Type 0} where
  -- each block in a line is where it is looked for
  abbrev IsFound : State Code → Type 0
  IsFound s = (m b : ℕ) → s.held m ≡ Some b → line_in line s b ≡ m

  may : (s : State Code) → IsFound s → (m b : ℕ) → s.held m ≡ Some b → may_hold s.lines b m
  may s found m b is = subst (may_hold s.lines b) (found m b is) (placing.allowed s.lines s.held s.dirty b)

  once : (s : State Code) → IsFound s → (m j b : ℕ) → s.held m ≡ Some b → s.held j ≡ Some b → j ≡ m
  once s found m j b is there = sym (found j b there) ∙ found m b is

  -- it is found again among as many lines that hold the same
  found_again : (s t : State Code) → t.lines ≡ s.lines → t.held ≡ s.held → IsFound s → IsFound t
  found_again s t lines held found m b is =
      let was : s.held m ≡ Some b = sym (ap (λ h. h m) held) ∙ is in
      placing.found t.lines t.held t.dirty b m (subst (λ n. may_hold n b m) (sym lines) (may s found m b was)) is (λ j there. once s found m j b was (sym (ap (λ h. h j) held) ∙ there))

  here_again : (s t : State Code) → t.held ≡ s.held → IsFound t → (b : ℕ) → s.held (line_in line s b) ≡ Some b → t.held (line_in line t b) ≡ Some b
  here_again s t held found b is =
      let there : t.held (line_in line s b) ≡ Some b = ap (λ h. h (line_in line s b)) held ∙ is in
      ap t.held (found (line_in line s b) b there) ∙ there

  module _ (owned : ℕ → Bool) where
    -- what is changed of blocks alone, and not of what the lines hold
    pub hit-consistent : (format : Format Code) (s : State Code) → IsConsistent line owned format s → IsConsistent line owned format (hit s)
    unfolding hit
    hit-consistent format s h = search rules

    pub write_back-consistent : (format : Format Code) (s : State Code) (b : ℕ) → IsConsistent line owned format s → IsConsistent line owned format (write_back format s b)
    unfolding write_back
    write_back-consistent format s b h =
        let code = encoded format b (s.values b) in
        let found : IsFound (write_back format s b) = found_again s (write_back format s b) refl refl h.in_its_line in
        let at_home : (n : ℕ) → with_at s.dirty b false n ≡ true → s.held (line_in line (write_back format s b) n) ≡ Some n =
        λ n. at_change (λ m d. d ≡ true → s.held (line_in line (write_back format s b) m) ≡ Some m) s.dirty b false n (λ e. absurd (cc))
        (λ ne dirty. here_again s (write_back format s b) refl found n (h.dirty_is_here n dirty)) in
        let coded : (n : ℕ) → owned n ≡ true → with_at s.dirty b false n ≡ false → with_at s.values b (meant format b code) n ≡ meant format n (with_at s.codes b code n) =
        λ n own. at_change (λ m d. d ≡ false → with_at s.values b (meant format b code) m ≡ meant format m (with_at s.codes b code m)) s.dirty b false n
        (λ clean. with_at-same s.values b _ ∙ ap (meant format b) (sym (with_at-same s.codes b code)))
        (λ ne clean. with_at-other s.values b _ n ne ∙ h.clean_is_coded n own clean ∙ ap (meant format n) (sym (with_at-other s.codes b code n ne))) in
        let all : (n : ℕ) → owned n ≡ true → existing_of format n (with_at s.values b (meant format b code) n) ≡ with_at s.values b (meant format b code) n =
        λ n own. at_change (λ m values. existing_of format m values ≡ values) s.values b (meant format b code) n (existing_of-meant format b code) (λ ne. h.whole n own) in
        search rules

    pub write_back_line-consistent : (format : Format Code) (s : State Code) (m : ℕ) → IsConsistent line owned format s → IsConsistent line owned format (write_back_line format s m)
    write_back_line-consistent format s m h =
        write_back_line_by format s m (IsConsistent line owned format) (λ b here dirty. write_back-consistent format s b h) (λ b here clean. h) (λ nothing. h)

    -- a block that is in no line comes into its own: it is in no other, and nothing that is dirty is lost
    pub miss-consistent : (format : Format Code) (s : State Code) (b : ℕ) → owned b ≡ true → (s.held (line_in line s b) ≡ Some b → ⊥) → IsConsistent line owned format s → IsConsistent line owned format (miss format s (line_in line s b) b)
    unfolding miss
    miss-consistent format s b own away h = record {
      some_line = k.some_line;
      in_its_line = found;
      held_is_owned = λ m n. at_change (λ j o. o ≡ Some n → owned n ≡ true) t.held l (Some b) m (λ e. let same : b ≡ n = cc in subst (λ a. owned a ≡ true) same own) (λ ne. k.held_is_owned m n);
      dirty_is_here = λ n dirty. let j = line_in line t n in let there = stays n j dirty (k.dirty_is_here n dirty) in ap u.held (found j n there) ∙ there;
      clean_is_coded = k.clean_is_coded;
      whole = k.whole;
    }
      where
        l : ℕ
        l = line_in line s b

        t : State Code
        t = write_back_line format s l

        u : State Code
        u = miss format s l b

        k : IsConsistent line owned format t
        k = write_back_line-consistent format s l h

        held_before : (m n : ℕ) → t.held m ≡ Some n → s.held m ≡ Some n
        held_before m n e = sym (ap (λ f. f m) (write_back_line-held format s l)) ∙ e

        nowhere : (m : ℕ) → t.held m ≡ Some b → ⊥
        nowhere m e = let was = held_before m b e in away (ap s.held (h.in_its_line m b was) ∙ was)

        may_take : (m n : ℕ) → with_at t.held l (Some b) m ≡ Some n → may_hold t.lines n m
        may_take m n = at_change (λ j o. o ≡ Some n → may_hold t.lines n j) t.held l (Some b) m
            (λ e. let same : b ≡ n = cc in subst (λ a. may_hold t.lines a l) same (subst (λ i. may_hold i b l) (sym (write_back_line-lines format s l)) (placing.allowed s.lines s.held s.dirty b)))
            (λ ne. may t k.in_its_line m n)

        only : (m n j : ℕ) → with_at t.held l (Some b) m ≡ Some n → with_at t.held l (Some b) j ≡ Some n → j ≡ m
        only m n j = at_change (λ i o. o ≡ Some n → with_at t.held l (Some b) j ≡ Some n → j ≡ i) t.held l (Some b) m
            (λ e. at_change (λ i o. o ≡ Some n → i ≡ l) t.held l (Some b) j (λ there. refl) (λ ne there. absurd (nowhere j (there ∙ sym e))))
            (λ ne is. at_change (λ i o. o ≡ Some n → i ≡ m) t.held l (Some b) j (λ e. absurd (nowhere m (is ∙ sym e))) (λ other there. once t k.in_its_line m j n is there))

        found : IsFound u
        found m n is = placing.found u.lines u.held u.dirty n m (may_take m n is) is (λ j there. only m n j is there)

        -- a dirty block was not in this line
        stays : (n j : ℕ) → t.dirty n ≡ true → t.held j ≡ Some n → with_at t.held l (Some b) j ≡ Some n
        stays n j dirty = at_change (λ i o. t.held i ≡ Some n → o ≡ Some n) t.held l (Some b) j
            (λ is. true_is_not_false (t.dirty n) dirty (write_back_line-clean format s l n (held_before l n is))) (λ ne is. is)

    pub touch-consistent : (format : Format Code) (s : State Code) (b : ℕ) → owned b ≡ true → IsConsistent line owned format s → IsConsistent line owned format (touch_at line format s b)
    touch-consistent format s b own h = touch_at_by line format s b (IsConsistent line owned format) (λ here. hit-consistent format s h) (λ away. miss-consistent format s b own away h)

    -- the block is in its line then
    pub touched_here : (format : Format Code) (s : State Code) (b : ℕ) → owned b ≡ true → IsConsistent line owned format s → (touch_at line format s b).held (line_in line (touch_at line format s b) b) ≡ Some b
    touched_here format s b own h =
        let there = touch-here line format s b in
        ap (touch_at line format s b).held ((touch-consistent format s b own h).in_its_line (line_in line s b) b there) ∙ there

    pub soiled-consistent : (format : Format Code) (s : State Code) (b : ℕ) → s.held (line_in line s b) ≡ Some b → IsConsistent line owned format s → IsConsistent line owned format (soiled s b)
    unfolding soiled
    soiled-consistent format s b here h =
        let found : IsFound (soiled s b) = found_again s (soiled s b) refl refl h.in_its_line in
        let at_home : (n : ℕ) → with_at s.dirty b true n ≡ true → s.held (line_in line (soiled s b) n) ≡ Some n =
        λ n. at_change (λ m d. d ≡ true → s.held (line_in line (soiled s b) m) ≡ Some m) s.dirty b true n (λ e. here_again s (soiled s b) refl found b here)
        (λ ne dirty. here_again s (soiled s b) refl found n (h.dirty_is_here n dirty)) in
        let coded : (n : ℕ) → owned n ≡ true → with_at s.dirty b true n ≡ false → s.values n ≡ meant format n (s.codes n) =
        λ n own. at_change (λ m d. d ≡ false → s.values m ≡ meant format m (s.codes m)) s.dirty b true n (λ e. absurd (cc)) (λ ne. h.clean_is_coded n own) in
        search rules

    pub touch_for_writing-consistent : (format : Format Code) (s : State Code) (b : ℕ) → owned b ≡ true → IsConsistent line owned format s → IsConsistent line owned format (touch_for_writing_at line format s b)
    unfolding touch_for_writing_at
    touch_for_writing-consistent format s b own h =
        soiled-consistent format (touch_at line format s b) b (touched_here format s b own h) (touch-consistent format s b own h)

    pub with_values-consistent : (format : Format Code) (s : State Code) (b : ℕ) (values : List ℤ) → s.dirty b ≡ true → existing_of format b values ≡ values → IsConsistent line owned format s → IsConsistent line owned format (with_values s b values)
    unfolding with_values
    with_values-consistent format s b values dirty whole h =
        let coded : (n : ℕ) → owned n ≡ true → s.dirty n ≡ false → with_at s.values b values n ≡ meant format n (s.codes n) =
        λ n own. at_change (λ m vs. s.dirty m ≡ false → vs ≡ meant format m (s.codes m)) s.values b values n (λ clean. true_is_not_false (s.dirty b) dirty clean) (λ ne. h.clean_is_coded n own) in
        let all : (n : ℕ) → owned n ≡ true → existing_of format n (with_at s.values b values n) ≡ with_at s.values b values n =
        λ n own. at_change (λ m vs. existing_of format m vs ≡ vs) s.values b values n whole (λ ne. h.whole n own) in
        search rules

    -- ---- changes of a whole array

    -- nothing is in any line, and each block has the values that its code means
    pub empty-consistent : (format : Format Code) (t : State Code) → 1 ≤ t.lines → IsEmpty t → ((b : ℕ) → owned b ≡ true → t.values b ≡ meant format b (t.codes b)) → IsConsistent line owned format t
    empty-consistent format t some e coded = record {
      some_line = some;
      in_its_line = λ m b held. absurd (e.none_held m b held);
      held_is_owned = λ m b held. absurd (e.none_held m b held);
      dirty_is_here = λ b dirty. true_is_not_false (t.dirty b) dirty (e.none_dirty b);
      clean_is_coded = λ b own clean. coded b own;
      whole = λ b own. subst (λ vs. existing_of format b vs ≡ vs) (sym (coded b own)) (existing_of-meant format b (t.codes b));
    }

    write_back_lines-consistent : (format : Format Code) (s : State Code) (n : ℕ) → IsConsistent line owned format s → IsConsistent line owned format (write_back_lines format s n)
    unfolding write_back_lines
    write_back_lines-consistent format s zero h = h
    write_back_lines-consistent format s (suc n) h = write_back_line-consistent format (write_back_lines format s n) n (write_back_lines-consistent format s n h)

    -- no block is dirty once all lines are written back
    all_clean : (format : Format Code) (s : State Code) → IsConsistent line owned format s → (b : ℕ) → (write_back_lines format s s.lines).dirty b ≡ false
    all_clean format s h b =
        let t = write_back_lines format s s.lines in
        let k = write_back_lines-consistent format s s.lines h in
        let j = line_in line t b in
        let below : j < s.lines = subst (λ n. j < n) (write_back_lines-lines format s s.lines) (placing.inside t.lines t.held t.dirty b (omega (arith, k.some_line))) in
        false_from_ne_true (t.dirty b) (λ e. true_is_not_false (t.dirty b) e (write_back_lines-clean format s s.lines j b below (sym (ap (λ f. f j) (write_back_lines-held format s s.lines)) ∙ k.dirty_is_here b e)))

    -- what is in none of the first n lines is not made clean by writing these back
    lines-other : (format : Format Code) (s : State Code) (n b : ℕ) → ((m : ℕ) → m < n → s.held m ≡ Some b → ⊥) → (write_back_lines format s n).dirty b ≡ s.dirty b
    unfolding write_back_lines
    lines-other format s zero b away = refl
    lines-other format s (suc n) b away =
        (write_back_line-other format (write_back_lines format s n) n b (λ e. away n (omega arith) (sym (ap (λ h. h n) (write_back_lines-held format s n)) ∙ e))).0
        ∙ lines-other format s n b (λ m lt. away m (omega (arith, lt)))

    lines-writes : (format : Format Code) (s : State Code) (n : ℕ) → IsConsistent line owned format s → s.counts.writes ≤ most_counted
        → (write_back_lines format s n).counts.writes ≡ min (s.counts.writes + dirty_lines s n) most_counted
    unfolding write_back_lines write_back dirty_lines
    lines-writes format s zero h within = omega (arith, within)
    lines-writes format s (suc n) h within = let before = lines-writes format s n h within in write_back_line_by format t n counted
        (λ b here dirty. one_more s.counts.writes (dirty_lines s n) t.counts.writes most_counted before ∙ ap risen_by (sym (marked (Some b) (held_before (Some b) here) ∙ sym (dirty_before b here) ∙ dirty)))
        (λ b here clean. before ∙ ap risen_by (sym (marked (Some b) (held_before (Some b) here) ∙ sym (dirty_before b here) ∙ clean)))
        (λ nothing. before ∙ ap risen_by (sym (marked None (held_before None nothing))))
      where
        t : State Code
        t = write_back_lines format s n

        -- the writes once line n is written back, where it holds a dirty block or none
        risen_by : Bool → ℕ
        risen_by d = min (s.counts.writes + (elim d [ true ↦ dirty_lines s n + 1 | false ↦ dirty_lines s n ])) most_counted

        counted : State Code → Type 0
        counted v = v.counts.writes ≡ risen_by (holds_dirty s n)

        held_before : (o : Option ℕ) → (write_back_lines format s n).held n ≡ o → s.held n ≡ o
        held_before o e = sym (ap (λ f. f n) (write_back_lines-held format s n)) ∙ e

        marked : (o : Option ℕ) → s.held n ≡ o → holds_dirty s n ≡ elim o [ None ↦ false | Some b ↦ s.dirty b ]
        marked o e = ap (λ (p : Option ℕ). elim p [ None ↦ false | Some b ↦ s.dirty b ]) e

        dirty_before : (b : ℕ) → (write_back_lines format s n).held n ≡ Some b → (write_back_lines format s n).dirty b ≡ s.dirty b
        dirty_before b here = lines-other format s n b (λ m lt is. let same = once s h.in_its_line n m b (held_before (Some b) here) is in omega (arith, lt, same))

    -- each dirty block is one write
    pub flush-writes : (format : Format Code) (s : State Code) → IsConsistent line owned format s → s.counts.writes ≤ most_counted → (flush format s).counts.writes ≡ min (s.counts.writes + dirty_lines s s.lines) most_counted
    unfolding flush emptied
    flush-writes format s h within = lines-writes format s s.lines h within

    -- nothing is dirty or in any line after a flush
    pub flush-empty : (format : Format Code) (s : State Code) → IsConsistent line owned format s → IsEmpty (flush format s)
    unfolding flush emptied
    flush-empty format s h = record { none_dirty = all_clean format s h; none_held = λ m b e. absurd (cc) }

    pub flush-consistent : (format : Format Code) (s : State Code) → IsConsistent line owned format s → IsConsistent line owned format (flush format s)
    unfolding flush emptied
    flush-consistent format s h =
        let k = write_back_lines-consistent format s s.lines h in
        empty-consistent format (flush format s) k.some_line (flush-empty format s h) (λ b own. k.clean_is_coded b own (all_clean format s h b))

    pub discard-values : (format : Format Code) (s : State Code) (b : ℕ) → owned b ≡ true → IsConsistent line owned format s → (discard format s).values b ≡ meant format b (s.codes b)
    discard-values format s b own h = discard-values_by format s b (h.clean_is_coded b own)

    pub discard-consistent : (format : Format Code) (s : State Code) → IsConsistent line owned format s → IsConsistent line owned format (discard format s)
    unfolding discard
    discard-consistent format s h = empty-consistent format (discard format s) h.some_line (discard-empty format s) (λ b own. discard-values format s b own h)

    pub relined-consistent : (format : Format Code) (s : State Code) (lines : ℕ) → 1 ≤ lines → IsConsistent line owned format s → IsConsistent line owned format (relined format s lines)
    unfolding relined
    relined-consistent format s lines some h =
        let e = flush-empty format s h in
        empty-consistent format (relined format s lines) some (record { none_dirty = e.none_dirty; none_held = e.none_held })
        (λ b own. (flush-consistent format s h).clean_is_coded b own (e.none_dirty b))

    -- a dirty block has the code of its values after a flush, and what this code means
    pub flush-rounded : (format : Format Code) (s : State Code) (b : ℕ) → IsConsistent line owned format s → s.dirty b ≡ true → IsRounded format s (flush format s) b
    flush-rounded format s b h dirty =
        let e = flush-empty format s h in
        let k = flush-dirty_codes format s b (e.none_dirty b) dirty in
        record { clean = e.none_dirty b; values = k.1; code = k.0 }

    pub flush-left : (format : Format Code) (s : State Code) (b : ℕ) → IsConsistent line owned format s → s.dirty b ≡ false → IsLeft s (flush format s) b
    flush-left format s b h clean =
        let k = flush-clean format s b clean in
        record { dirty = (flush-empty format s h).none_dirty b ∙ sym clean; values = k.1; code = k.0 }

  pub opened-consistent : (owned : ℕ → Bool) (format : Format Code) (codes : ℕ → Code) (lines : ℕ) → 1 ≤ lines → IsConsistent line owned format (opened format codes lines)
  unfolding opened
  opened-consistent owned format codes lines some =
      empty-consistent owned format (opened format codes lines) some (record { none_dirty = λ b. refl; none_held = λ m b e. absurd (cc) }) (λ b own. refl)

  -- where the code of zeros means zeros
  pub resized-consistent : (owned : ℕ → Bool) (format new : Format Code) (code : Code) (s : State Code) → ((b : ℕ) → meant new b code ≡ zeros new) → IsConsistent line owned format s → IsConsistent line owned new (resized new code s)
  unfolding resized
  resized-consistent owned format new code s means h =
      empty-consistent owned new (resized new code s) h.some_line (record { none_dirty = λ b. refl; none_held = λ m b e. absurd (cc) }) (λ b own. sym (means b))
