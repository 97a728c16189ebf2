-- Touches, flush and discard, from the changes of single lines.
use Rattle.std.proofs.Common.{◌≡◌, ◌≢◌, inl, inr, refl, sym, ap, subst, ◌∙◌, ℕ, suc, ◌≤◌, ℤ, Bool, true, false, cond, nat_lt, Option, Some, None, List, length, replicate, eq-eqb, arith, rules}
use Rattle.std.proofs.lemmas.Bool.{cases_lt, lt-ltb, le-ltb, cases_eq}
use Rattle.std.proofs.lemmas.List.{length-replicate, get_or-replicate, get_or_past}
use Rattle.zf_base.{specs.Formats.{Format, meant}, proofs.Formats.{with_at-same, with_at-other}}
use Rattle.zf_cached.{specs.State.{Counts, State}, specs.Changes.{write_back_lines, emptied, flush, discard}}
use Rattle.zf_cached.specs.Touch.{write_back, write_back_dirty, write_back_line, hit, miss}
use Rattle.zf_cached.{proofs.States.{same_state}, proofs.Caching.{is_block-some}, proofs.Flushing.{write_back_lines-held}}
use Rattle.zf_cache.{specs.Kept.{Kept, IsAway, tag_at, block_in, one_line}}
use Rattle.zf_cache.{specs.Standing.{state_at, state_of, FitsAt, evicted}, specs.Steps.{taken_in, touch_in}}
use Rattle.zf_cache.proofs.Tags.{is_block-other}
use Rattle.zf_cache.proofs.Stands.{standing_at, standing, soiled_in, Fit, write_back_dirty-false, write_back_dirty-true, undirty_values, vals-out, dirty-out}

module _ {Code : Type 0} (f : Format Code) (s : State Code) (b : ℕ) where
  -- a block that is in a line is hit there
  pub touches_here : (l : ℕ) → s.held l ≡ Some b → hit s ≡ touch_in f s l b
  unfolding touch_in
  touches_here l e = sym (ap (λ (t : Bool). elim t [ true ↦ hit s | false ↦ miss f s l b ]) (is_block-some _ b e))

  -- one that is not is missed: the line is emptied, and takes the block in
  pub touches_away : (l : ℕ) → s.held l ≢ Some b → taken_in (evicted f s l) l b ≡ touch_in f s l b
  unfolding touch_in miss taken_in evicted
  touches_away l ne =
      let t = write_back_line f s l in
      same_state (taken_in (evicted f s l) l b) (miss f s l b) refl
      (λ m. search (rules, cases_eq, with_at-same, with_at-other))
      (λ a. refl) (λ a. refl) (λ a. refl) refl
      ∙ sym (ap (λ (t : Bool). elim t [ true ↦ hit s | false ↦ miss f s l b ]) (is_block-other _ b ne))

-- ---- flush

module _ {Code : Type 0} (f : Format Code) where
  -- a write-back leaves what stands in the lines, and looks at no line but its own
  write_back_dirty-held : (s : State Code) (h : ℕ → Option ℕ) (b : ℕ) → write_back_dirty f (record s { held = h }) b ≡ record (write_back_dirty f s b) { held = h }
  unfolding write_back_dirty write_back
  write_back_dirty-held s h b = search (rules, write_back_dirty-true, write_back_dirty-false)

  write_back_line-held : (s : State Code) (h : ℕ → Option ℕ) (l : ℕ) → h l ≡ s.held l → write_back_line f (record s { held = h }) l ≡ record (write_back_line f s l) { held = h }
  unfolding write_back_line
  write_back_line-held s h l same = search (rules, write_back_dirty-held)

  -- the lines below m are empty
  abbrev pub held_from : (ℕ → Option ℕ) → ℕ → ℕ → Option ℕ
  held_from h m j = cond (nat_lt j m) None (h j)

  -- a flush that has come to line m
  abbrev pub flushing : State Code → ℕ → State Code
  flushing s m = record (write_back_lines f s m) { held = held_from s.held m }

  pub flush_begins : (s : State Code) → flushing s 0 ≡ s
  unfolding write_back_lines
  flush_begins s = same_state (flushing s 0) s refl (λ j. ap (λ t. cond t None (s.held j)) (le-ltb j 0 (omega arith))) (λ a. refl) (λ a. refl) (λ a. refl) refl

  pub flush_goes_on : (s : State Code) (m : ℕ) → evicted f (flushing s m) m ≡ flushing s (suc m)
  unfolding evicted write_back_lines
  flush_goes_on s m = search (rules, le-ltb, write_back_lines-held, write_back_line-held, same_state, cases_eq, with_at-same, lt-ltb, with_at-other)

  -- it ends where the lines end
  pub flush_ends : (s : State Code) → ((j : ℕ) → s.lines ≤ j → s.held j ≡ None) → flushing s s.lines ≡ flush f s
  unfolding flush emptied
  flush_ends s past = search (rules, same_state, cases_lt, lt-ltb, le-ltb)

-- ---- lines that are all empty

pub no_tag : (n l : ℕ) → tag_at (replicate n 0) l ≡ 0
no_tag n l = elim (cases_lt l n) [ inl lt ↦ get_or-replicate n l 0 0 lt | inr ge ↦ get_or_past (replicate n 0) l 0 (let none : ℕ = 0 in let size : length (replicate n none) ≡ n = length-replicate n none in omega (arith, size)) ]

module _ (place : ℕ → List ℕ → ℕ → ℕ) {X Code : Type 0} (value : X → ℤ) (f : Format Code) (n : ℕ) (lines : List (List X)) (counts : Counts) (k : ℕ → Code) where
  none_held : (l : ℕ) → block_in (tag_at (replicate n 0) l) ≡ None
  none_held l = ap block_in (no_tag n l)

  none_in : (m : ℕ) (b : ℕ) → IsAway (replicate m 0) b
  none_in m b l e = let both : None ≡ Some b = sym (ap block_in (no_tag m l)) ∙ e in cc

  none_soiled : (m b : ℕ) → soiled_in place value f m (replicate m 0) b ≡ false
  none_soiled m b = dirty-out place value f m (replicate m 0) b (none_in m b (place m (replicate m 0) b))

  pub all_meant_at : (b : ℕ) → (standing_at place value f n lines (replicate n 0) counts k).values b ≡ meant f b (k b)
  all_meant_at b = vals-out place value f n lines (replicate n 0) k b (none_in n b (place n (replicate n 0) b))

  -- an empty cache fits every backing
  pub fits_empty : Fit place value f n lines (replicate n 0) k
  fits_empty = search (rules, none_in, no_tag)

  -- empty lines of another number
  pub relines : (n' : ℕ) (lines' : List (List X)) → standing_at place value f n' lines' (replicate n' 0) counts k ≡ record (standing_at place value f n lines (replicate n 0) counts k) { lines = n' }
  relines n' lines' = search (rules, same_state, standing_at, no_tag, none_held, none_soiled, vals-out, none_in, all_meant_at)

  -- discard, whatever stood in the lines
  pub discards : (tags : List ℕ) → Fit place value f n lines tags k → standing_at place value f n lines (replicate n 0) counts k ≡ discard f (standing_at place value f n lines tags counts k)
  unfolding discard
  discards tags fit = search (rules, standing_at, same_state, none_held, none_soiled, all_meant_at, soiled_in, undirty_values, eq-eqb)

-- ---- caches as they are seen

module _ (place : ℕ → List ℕ → ℕ → ℕ) {X Code : Type 0} (value : X → ℤ) (f : Format Code) (c : Kept X) (k : ℕ → Code) where
  pub state_stands : (n : ℕ) → length c.tags ≡ n → state_at place value c f k ≡ standing_at place value f n c.lines c.tags c.counts k
  unfolding state_at
  state_stands n e = ap (λ m. standing_at place value f m c.lines c.tags c.counts k) e

  pub fit_of : (n : ℕ) → length c.tags ≡ n → FitsAt place value c f k → Fit place value f n c.lines c.tags k
  fit_of n e fits = subst (λ m. Fit place value f m c.lines c.tags k) e (record { own = fits.own; clean = fits.clean })

  pub fits_of : (n : ℕ) → length c.tags ≡ n → Fit place value f n c.lines c.tags k → FitsAt place value c f k
  fits_of n e fit = let there = subst (λ m. Fit place value f m c.lines c.tags k) (sym e) fit in record { own = there.own; clean = there.clean }

  -- nothing is in a line past the last
  pub past_lines : (l : ℕ) → (state_at place value c f k).lines ≤ l → (state_at place value c f k).held l ≡ None
  unfolding state_at
  past_lines l past = ap block_in (get_or_past c.tags l 0 past)

-- ---- where each block has one line

module _ {X Code : Type 0} (value : X → ℤ) (f : Format Code) where
  pub state_is : (c : Kept X) (k : ℕ → Code) (n : ℕ) → length c.tags ≡ n → state_of value c f k ≡ standing value f n c.lines c.tags c.counts k
  state_is c k n e = state_stands one_line value f c k n e

  pub all_meant : (n : ℕ) (lines : List (List X)) (counts : Counts) (k : ℕ → Code) (b : ℕ) → (standing value f n lines (replicate n 0) counts k).values b ≡ meant f b (k b)
  all_meant n lines counts k b = all_meant_at one_line value f n lines counts k b
