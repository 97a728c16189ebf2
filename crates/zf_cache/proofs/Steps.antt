-- The calls that take no backing, as steps of the state over any backing; and what fits everything.
use Rattle.std.proofs.Common.{◌≡◌, refl, sym, ap, subst, ◌∙◌, ℕ, zero, suc, ◌%◌, ◌<◌, ◌==◌, ℤ, false, List, map, length, replicate, inl, inr, arith}
use Rattle.std.{proofs.lemmas.Bool.{ne_eqb, cases_lt}, proofs.lemmas.List.{length-replicate, get_or_past}}
use Rattle.zf_base.specs.Formats.{Format, existing_of}
use Rattle.zf_cached.{specs.State.{State}, specs.Touch.{write_back_line, with_values}}
use Rattle.zf_cached.specs.Changes.{write_back_lines, flush, emptied, discard, relined}
use Rattle.zf_cached.{proofs.States.{same_state}, proofs.Caching.{write_back_line_by}, specs.Placing.{IsDirect}}
use Rattle.zf_lines.specs.Rows.{line_at, over_part, with_part}
use Rattle.zf_cache.specs.Kept.{Kept, IsClean, IsDirty, IsEmpty, line_of, tag_at, block_in, dirty_tag, one_line}
use Rattle.zf_cache.{specs.Rules.{one_line_rule}, specs.Loans.{StandsFor}}
use Rattle.zf_cache.specs.Standing.{state_at, state_of, FitsAt, Fits}
use Rattle.zf_cache.proofs.Stands.{standing_at, standing, Fit, undirty_values, writes, fits_written}
use Rattle.zf_cache.proofs.Touches.{no_tag, state_stands, state_is, fit_of, fits_of, fits_empty, all_meant, discards, relines}

module _ (place : ℕ → List ℕ → ℕ → ℕ) {X Code : Type 0} (value : X → ℤ) (f : Format Code) (k : ℕ → Code) where
  empty_count : (c : Kept X) (n : ℕ) → IsEmpty c n → length c.tags ≡ n
  empty_count c n e = let none : ℕ = 0 in ap length e ∙ length-replicate n none

  -- an empty cache fits every backing
  pub empty_fits_at : (c : Kept X) (n : ℕ) → IsEmpty c n → FitsAt place value c f k
  empty_fits_at c n e =
      fits_of place value f c k n (empty_count c n e) (subst (λ ts. Fit place value f n c.lines ts k) (sym e) (fits_empty place value f n c.lines c.counts k))

  pub discarded_at : (c d : Kept X) → FitsAt place value c f k → IsEmpty d (length c.tags) → d.counts ≡ c.counts → state_at place value d f k ≡ discard f (state_at place value c f k)
  discarded_at c d fits e counts =
      let n = length c.tags in
      state_stands place value f d k n (empty_count d n e)
      ∙ (λ i. standing_at place value f n d.lines (e i) (counts i) k)
      ∙ relines place value f n c.lines c.counts k n d.lines
      ∙ discards place value f n c.lines c.counts k c.tags (fit_of place value f c k n refl fits)
      ∙ ap (discard f) (sym (state_stands place value f c k n refl))

-- ---- where each block has one line

module _ {X Code : Type 0} (value : X → ℤ) (f : Format Code) (k : ℕ → Code) where
  pub empty_fits : (c : Kept X) (n : ℕ) → IsEmpty c n → Fits value c f k
  empty_fits c n e = empty_fits_at one_line value f k c n e

  pub discarded : (c d : Kept X) → Fits value c f k → IsEmpty d (length c.tags) → d.counts ≡ c.counts → state_of value d f k ≡ discard f (state_of value c f k)
  discarded c d fits e counts = discarded_at one_line value f k c d fits e counts

  -- where nothing is dirty a flush writes nothing
  pub flush_clean : (s : State Code) → ((b : ℕ) → s.dirty b ≡ false) → flush f s ≡ emptied s
  unfolding flush write_back_lines
  flush_clean s clean = ap emptied (all s.lines)
    where
      one : (l : ℕ) → write_back_line f s l ≡ s
      one l = write_back_line_by f s l (λ t. t ≡ s) (λ b e dirty. absurd (let is = clean b in cc)) (λ b e dirty. refl) (λ e. refl)

      all : (m : ℕ) → write_back_lines f s m ≡ s
      all zero = refl
      all (suc m) = ap (λ (t : State Code). write_back_line f t m) (all m) ∙ one m

  pub relined_clean : (c d : Kept X) (n : ℕ) → IsClean c → Fits value c f k → IsEmpty d n → d.counts ≡ c.counts → state_of value d f k ≡ relined f (state_of value c f k) n
  unfolding relined emptied
  relined_clean c d n clean fits e counts =
      let m = length c.tags in let s = standing value f m c.lines c.tags c.counts k in
      let undirty : (b : ℕ) → s.dirty b ≡ false = λ b. ne_eqb (tag_at c.tags (b % m)) (dirty_tag b) (λ is. let even = clean (b % m) in omega (arith, is, even)) in
      state_is value f d k n (empty_count one_line value f k d n e)
      ∙ (λ i. standing value f n d.lines (e i) (counts i) k)
      ∙ same_state (standing value f n d.lines (replicate n 0) c.counts k) (record (emptied s) { lines = n }) refl
      (λ l. ap block_in (no_tag n l))
      (λ b. ap (λ t. t == dirty_tag b) (no_tag n (b % n)) ∙ ne_eqb 0 (dirty_tag b) (λ is. omega (arith, is)) ∙ sym (undirty b))
      (λ b. all_meant value f n d.lines c.counts k b ∙ sym (undirty_values one_line value f m c.lines c.tags k (fit_of one_line value f c k m refl fits) b (λ is. let even = clean (b % m) in omega (arith, is, even))))
      (λ b. refl) refl
      ∙ ap (λ (t : State Code). record t { lines = n }) (sym (flush_clean s undirty) ∙ ap (flush f) (sym (state_is value f c k m refl)))

  -- what is written through a loan of a part of the dirty block b
  pub part_written : (c : Kept X) (b a n : ℕ) (ws : List X) → Fits value c f k → IsDirty c b → line_of c b < length c.lines
      → StandsFor value (record c { lines = with_part c.lines (line_of c b) a n ws }) f k
      (with_values (state_of value c f k) b (existing_of f b (map value (over_part (line_at c.lines (line_of c b)) a n ws))))
  part_written c b a n ws fits dirty here =
      let m = length c.tags in let l = line_of c b in let row = over_part (line_at c.lines l) a n ws in
      let d : Kept X = record c { lines = with_part c.lines l a n ws } in
      let fit = fit_of one_line value f c k m refl fits in
      let lt : l < m = elim (cases_lt l m) [ inl lt ↦ lt | inr ge ↦ let none = get_or_past c.tags l 0 ge in absurd (omega (arith, dirty, none)) ] in
      record {
        state = state_is value f d k m refl ∙ writes one_line value f m IsDirect one_line_rule c.lines c.tags c.counts k fit l lt b here row dirty
            ∙ ap (λ (s : State Code). with_values s b (existing_of f b (map value row))) (sym (state_is value f c k m refl));
        fits = fits_of one_line value f d k m refl (fits_written one_line value f m IsDirect one_line_rule c.lines c.tags c.counts k fit l lt b here row dirty);
      }
