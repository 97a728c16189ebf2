-- What is proved of the parts of a cache, in the words of its contracts, whatever its placing.
use Rattle.std.proofs.Common.{◌≡◌, refl, sym, ap, subst, ◌∙◌, ℕ, ℤ, List, length, rules}
use Rattle.zf_base.{specs.Formats.{Format}, specs.declared.backing.Reading.{Ghosts as Reading}}
use Rattle.zf_cached.{specs.State.{State}, specs.Placing.{Line}, specs.Changes.{flush}}
use Rattle.zf_cached.specs.Touch.{touch_at, touch_for_writing_at, soiled}
use Rattle.zf_lines.specs.Rows.{line_at, over}
use Rattle.zf_cache.{specs.declared.body.Body.{Body}, specs.Rules.{IsRule, IsTold}, specs.Backed.{StepsTo}}
use Rattle.zf_cache.specs.Kept.{line_by, Kept, tag_at, dirty_tag, written_in}
use Rattle.zf_cache.{specs.Bodies.{IsSound, ComesTo, kept_of, state_in}, specs.Standing.{state_at, FitsAt}}
use Rattle.zf_cache.specs.Steps.{touch_in, with_value, put_at}
use Rattle.zf_cache.specs.Loans.{StandsForAt, LendsBlockAt, lent_block_at}
use Rattle.zf_cache.proofs.Lent.{state_now, fits_now, row_held, lent_state, lent_fits}

module _ (place : ℕ → List ℕ → ℕ → ℕ) (line : Line) (told : IsTold place line) {X : Type 0} (value : X → ℤ) where
  -- a touch of a block in the line that the tags tell is one by the placing
  pub touched_by : {Code : Type 0} (c : Kept X) (f : Format Code) (k : ℕ → Code) → FitsAt place value c f k → (l b : ℕ) → l ≡ line_by place c b
      → touch_in f (state_at place value c f k) l b ≡ touch_at line f (state_at place value c f k) b
  unfolding state_at touch_in touch_at
  touched_by c f k fits l b at =
      ap (λ m. touch_in f (state_at place value c f k) m b) (at ∙ sym (told (length c.tags) c.tags b (λ m a is. (fits.own m a is).0)))

  -- ---- a step of the fields is one of the cache

  module _ {B : Type 0} (R : Reading B X) (body : Body X) (view : Kept X) (is : kept_of body ≡ view) (back : B) (fits : FitsAt place value view (R.format back) (R.codes back)) (t : Body X) (now : B) where
    abbrev f : Format R.Code
    f = R.format back

    abbrev s : State R.Code
    s = state_at place value (kept_of body) f (R.codes back)

    -- a step of the fields
    abbrev pub FieldsStep : (Format R.Code → State R.Code → State R.Code) → Type 0
    FieldsStep step = StepsTo R (state_in place value) (IsSound place value) step body back t now

    -- a step of the cache
    abbrev pub CacheStep : (Format R.Code → State R.Code → State R.Code) → Type 0
    CacheStep step = StepsTo R (state_at place value) (FitsAt place value) step view back (kept_of t) now

    steps : (inner outer : Format R.Code → State R.Code → State R.Code) → inner f s ≡ outer f s → FieldsStep inner → CacheStep outer
    steps inner outer same e = search rules

    at_line : (l b : ℕ) → l ≡ line_by place (kept_of body) b → touch_in f s l b ≡ touch_at line f s b
    at_line l b at = touched_by (kept_of body) f (R.codes back) (subst (λ (q : Kept X). FitsAt place value q f (R.codes back)) (sym is) fits) l b at

    pub touches : (b l : ℕ) → ComesTo place (kept_of body) (kept_of t) b l → FieldsStep (λ g u. touch_in g u l b) → CacheStep (λ g u. touch_at line g u b)
    touches b l to = steps (λ g u. touch_in g u l b) (λ g u. touch_at line g u b) (at_line l b to.at)

    pub touches_for_writing : (b l : ℕ) → ComesTo place (kept_of body) (kept_of t) b l → FieldsStep (λ g u. soiled (touch_in g u l b) b) → CacheStep (λ g u. touch_for_writing_at line g u b)
    unfolding touch_for_writing_at
    touches_for_writing b l to = steps (λ g u. soiled (touch_in g u l b) b) (λ g u. touch_for_writing_at line g u b) (ap (λ u. soiled u b) (at_line l b to.at))

    pub puts_in : (b p : ℕ) (v : ℤ) → FieldsStep (λ g u. with_value g (soiled (touch_in g u (line_by place (kept_of body) b) b) b) b p v) → CacheStep (λ g u. put_at line g u b p v)
    unfolding put_at touch_for_writing_at
    puts_in b p v = search (rules, steps, at_line)

    pub flushes : FieldsStep (λ g u. flush g u) → CacheStep (λ g u. flush g u)
    flushes = steps (λ g u. flush g u) (λ g u. flush g u) refl

  -- ---- loans

  module _ (may_hold : ℕ → ℕ → ℕ → Type 0) (rule : IsRule place may_hold) {Code : Type 0}
      (f h : Format Code) (j : ℕ → Code) (c : Kept X) (t : Body X) (b l : ℕ) (same : h ≡ f) (sound : IsSound place value t h j) (to : ComesTo place c (kept_of t) b l) where
    pub stands : (s : State Code) → state_at place value (kept_of t) h j ≡ s → StandsForAt place value (kept_of t) f j s
    stands s state = search (rules, state_now, fits_now)

    module _ (k : ℕ → Code) (fits : FitsAt place value c f k) (dirty : tag_at t.tags.items l ≡ dirty_tag b)
        (state : state_at place value (kept_of t) h j ≡ soiled (touch_in f (state_at place value c f k) l b) b)
        (row : List X) (is : row ≡ line_at t.lines.blocks l) where
      touched : touch_in f (state_at place value c f k) l b ≡ touch_at line f (state_at place value c f k) b
      touched = touched_by c f k fits l b to.at

      pub lent_is : (w : List X) → written_in c l b (over row w) (touch_in f (state_at place value c f k) l b).counts ≡ lent_block_at place value line f k c b row w
      lent_is w = λ i. written_in c (to.at i) b (over row w) (touched i).counts

      pub loans : LendsBlockAt place value line f k j c b row
      unfolding touch_for_writing_at
      loans = record {
        held = row_held place may_hold rule value f h j c t b l same sound to k dirty state row is ∙ ap (λ (u : State Code). u.values b) touched;
        written = λ w. record {
          state = search (rules, lent_is, lent_state, touched);
          fits = subst (λ d. FitsAt place value d f j) (lent_is w) (lent_fits place may_hold rule value f h j c t b l same sound to k dirty state row is w);
        };
      }
