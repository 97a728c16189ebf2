-- What a touched cache gives to read, and what it ends as once a loan of a block has ended.
use Rattle.std.proofs.Common.{◌≡◌, refl, sym, ap, subst, ◌∙◌, ℕ, ◌<◌, ℤ, pos, List, map, length, get_or, replicate, rules}
use Rattle.std.{specs.Bool.{OnTrue}, proofs.lemmas.Bool.{OnTrue_from}, proofs.lemmas.List.{get_or-map, set-set, length-replicate}}
use Rattle.zf_base.{specs.Formats.{Format, existing_of}, proofs.Formats.{get_or-existing_of_exists}}
use Rattle.zf_cached.{specs.State.{State}, specs.Touch.{soiled, with_values}, specs.Changes.{flush, relined}}
use Rattle.zf_lines.{specs.Rows.{line_at, over, with_line}, proofs.Sizes.{length-over}}
use Rattle.zf_cache.{specs.declared.body.Body.{Body}, specs.Kept.{Kept, tag_at, dirty_tag, written_in}}
use Rattle.zf_cache.{specs.Rules.{IsRule}, specs.Bodies.{IsSound, ComesTo, kept_of, counts_of}}
use Rattle.zf_cache.{specs.Standing.{values_by, state_at, FitsAt}, specs.Steps.{touch_in}}
use Rattle.zf_cache.{proofs.Tags.{names}, proofs.Stands.{standing_at}, proofs.Touches.{state_stands, relines}}
use Rattle.zf_cache.proofs.Sound.{line_below, writes_row, values_there}

module _ (place : ℕ → List ℕ → ℕ → ℕ) (may_hold : ℕ → ℕ → ℕ → Type 0) (rule : IsRule place may_hold) {X Code : Type 0} (value : X → ℤ)
    (f h : Format Code) (j : ℕ → Code) (c : Kept X) (t : Body X) (b l : ℕ) (same : h ≡ f) (sound : IsSound place value t h j) (to : ComesTo place c (kept_of t) b l) where
  lt : l < length t.tags.items
  lt = (line_below place may_hold rule value t h j sound c b l to).0

  pub whole : length (line_at t.lines.blocks l) ≡ h.block_len
  whole = sound.whole.size.1 l lt

  here : (state_at place value (kept_of t) h j).values b ≡ existing_of h b (map value (line_at t.lines.blocks l))
  here = values_there place value h (kept_of t) j b l (sound.fits.own l b (names (tag_at t.tags.items l) b to.here)).0 to.here

  -- the value at a place that exists
  pub gets : (p : ℕ) (line : List X) (r : X) → p < h.block_len → line ≡ line_at t.lines.blocks l → r ≡ get_or line p r
      → OnTrue (f.exists b p) (value r ≡ get_or (values_by place value (kept_of t) h j b) p (pos 0))
  unfolding state_at
  gets p line r within is read = search (rules, OnTrue_from, whole, get_or-map, get_or-existing_of_exists, here)

  -- the whole block, for the state that the touch has made
  pub shows : (s : State Code) (line : List X) → state_at place value (kept_of t) h j ≡ s → line ≡ line_at t.lines.blocks l → existing_of f b (map value line) ≡ s.values b
  shows s line state is = search (rules, here)

  pub state_now : (s : State Code) → state_at place value (kept_of t) h j ≡ s → state_at place value (kept_of t) f j ≡ s
  state_now s state = ap (λ q. state_at place value (kept_of t) q j) (sym same) ∙ state

  pub fits_now : FitsAt place value (kept_of t) f j
  fits_now = subst (λ q. FitsAt place value (kept_of t) q j) same sound.fits

  -- ---- block b is dirty, and its line is lent

  module _ (k : ℕ → Code) (dirty : tag_at t.tags.items l ≡ dirty_tag b) (state : state_at place value (kept_of t) h j ≡ soiled (touch_in f (state_at place value c f k) l b) b)
      (row : List X) (is : row ≡ line_at t.lines.blocks l) where
    abbrev touched : State Code
    touched = touch_in f (state_at place value c f k) l b

    abbrev pub ended : List X → Body X
    ended w = record { lines = record t.lines { blocks = with_line t.lines.blocks l w }; tags = t.tags; counts = t.counts }

    -- the cache as it ends, with w written through the loan
    abbrev pub lent : List X → Kept X
    lent w = written_in c l b (over row w) touched.counts

    counted : counts_of t.counts ≡ touched.counts
    unfolding state_at soiled
    counted = ap (λ (u : State Code). u.counts) state

    pub lends : (w : List X) → kept_of (ended w) ≡ lent w
    lends w = search (rules, set-set, counted)

    pub row_held : existing_of f b (map value row) ≡ touched.values b
    unfolding soiled
    row_held = shows (soiled touched b) row state is

    wrote : (w : List X) → IsSound place value (ended w) h j × (state_at place value (kept_of (ended w)) h j ≡ with_values (state_at place value (kept_of t) h j) b (existing_of h b (map value (over (line_at t.lines.blocks l) w))))
    wrote w =
        writes_row place may_hold rule value t (ended w) h h j j refl sound l lt b (over (line_at t.lines.blocks l) w) (length-over (line_at t.lines.blocks l) w ∙ whole) dirty refl refl refl refl

    pub lent_state : (w : List X) → state_at place value (lent w) f j ≡ with_values (soiled touched b) b (existing_of f b (map value (over row w)))
    lent_state w =
        (λ i. state_at place value (sym (lends w) i) (sym same i) j) ∙ (wrote w).1
        ∙ (λ i. with_values (state i) b (existing_of (same i) b (map value (over (sym is i) w))))

    pub lent_fits : (w : List X) → FitsAt place value (lent w) f j
    lent_fits w = subst (λ d. FitsAt place value d f j) (lends w) (subst (λ q. FitsAt place value (kept_of (ended w)) q j) same (wrote w).0.fits)

-- ---- new lines in the place of those that a flush has emptied

pub reline : (place : ℕ → List ℕ → ℕ → ℕ) {X Code : Type 0} (value : X → ℤ) (f h : Format Code) (j : ℕ → Code) (fl new : Kept X) (n m : ℕ) (s : State Code)
    → fl.tags ≡ replicate n 0 → new.tags ≡ replicate m 0 → new.counts ≡ fl.counts → state_at place value fl h j ≡ flush f s → state_at place value new h j ≡ relined f s m
unfolding relined
reline place value f h j fl new n m s old tags counts state =
    let none : ℕ = 0 in
    let long : length new.tags ≡ m = ap length tags ∙ length-replicate m none in
    let was : length fl.tags ≡ n = ap length old ∙ length-replicate n none in
    state_stands place value h new j m long
    ∙ (λ i. standing_at place value h m new.lines (tags i) (counts i) j)
    ∙ relines place value h n fl.lines fl.counts j m new.lines
    ∙ ap (λ (u : State _). record u { lines = m }) ((λ i. standing_at place value h n fl.lines (sym old i) fl.counts j) ∙ sym (state_stands place value h fl j n was) ∙ state)
