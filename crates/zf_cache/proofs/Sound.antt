-- The fields of a cache are whole, and fit the backing.
use Rattle.std.proofs.Common.{◌≡◌, ◌≢◌, refl, sym, ap, subst, ◌∙◌, ℕ, ◌+◌, ◌/◌, ◌%◌, ◌<◌, ◌≤◌, ◌++◌, take, drop, replicate, inl, inr, length-append, length-take, length-drop, ℤ, Option, Some, List, map, length, set, arith, rules}
use Rattle.std.proofs.lemmas.Bool.{cases_eq, cases_lt}
use Rattle.std.proofs.lemmas.List.{length-set, length-replicate, get_or_past, set-set, set-get_or, get_or-set_same, get_or-set_other}
use Rattle.zf_base.specs.Formats.{Format, existing_of, meant}
use Rattle.zf_base.proofs.Formats.{length-existing_of, existing_of_same, get_or-existing_of_exists}
use Rattle.zf_cached.{specs.State.{Counts, State, risen}, specs.Touch.{hit, soiled, with_values}}
use Rattle.zf_lines.{specs.Rows.{line_at, HasSize, over, part, over_part}, specs.Seen.{Seen}, proofs.Sizes.{HasSize-set, length-over}}
use Rattle.zf_cache.{specs.declared.body.Body.{Body}, specs.Rules.{IsRule}}
use Rattle.zf_cache.specs.Kept.{line_by, Kept, IsAway, IsClean, OnlyLine, tag_at, clean_tag, dirty_tag, dirty_of, one_line}
use Rattle.zf_cache.specs.Bodies.{IsBlank, IsWhole, IsSound, ComesTo, kept_of, counts_of}
use Rattle.zf_cache.{specs.Standing.{state_at, state_of, evicted}, specs.Steps.{taken_in, touch_in}}
use Rattle.zf_cache.proofs.Tags.{names, named, tag-set_same, tag-set_other}
use Rattle.zf_cache.proofs.Stands.{standing_at, Fit, codes_after, counts_after, empties, fits_after, dirty_below, takes_in, fits_taken, writes, fits_written, soils, fits_soiled, vals-in}
use Rattle.zf_cache.proofs.Touches.{no_tag, fits_of, fit_of, state_stands, touches_here, touches_away}

-- where the tag of a written line changes, or a line is emptied, those that are not written stay empty
pub still_blank : (w : ℕ) (tags : List ℕ) (l x : ℕ) → l < length tags → (w ≤ l → x ≡ 0) → IsBlank w tags → IsBlank w (set tags l x)
still_blank w tags l x lt zero blank m past = search (rules, cases_eq, tag-set_same, tag-set_other)

module _ {X : Type 0} where
  -- fields with as many tags, and rows of the same size
  pub whole_as : (c d : Body X) (len : ℕ) → IsWhole c len → length d.tags.items ≡ length c.tags.items → HasSize d.lines.blocks (length c.tags.items) len
      → IsBlank d.lines.written d.tags.items → IsWhole d len
  whole_as c d len w e size blank = search rules

  -- the lines and the tags of another
  pub whole_of : (c d : Body X) (len : ℕ) → IsWhole c len → d.lines ≡ c.lines → d.tags.items ≡ c.tags.items → IsWhole d len
  whole_of c d len w lines tags = search rules

  -- lines that were emptied
  pub whole_emptied : (c d : Body X) (len : ℕ) → IsWhole c len → d.lines ≡ c.lines → d.tags.items ≡ replicate (length c.tags.items) 0 → IsWhole d len
  whole_emptied c d len w lines tags = search (rules, whole_as, length-replicate, no_tag)

  -- a row that was written over, by one as long
  pub whole_over : (c : Body X) (len l : ℕ) (row : List X) → IsWhole c len → l < length c.tags.items → length row ≡ length (line_at c.lines.blocks l)
      → IsWhole (record c { lines = record c.lines { blocks = set c.lines.blocks l row } }) len
  whole_over c len l row w lt long =
      record { size = HasSize-set c.lines.blocks (length c.tags.items) len l row w.size lt (long ∙ w.size.1 l lt); blank = w.blank; lines = w.lines }

  -- a line that holds a block has a row, and is written
  pub line_there : (c : Body X) (len : ℕ) → IsWhole c len → (l : ℕ) → 0 < tag_at c.tags.items l → l < length c.tags.items
  line_there c len w l some = elim (cases_lt l (length c.tags.items)) [ inl lt ↦ lt | inr past ↦ let none = get_or_past c.tags.items l 0 past in absurd (omega (arith, none, some)) ]

  pub row_there : (c : Body X) (len : ℕ) → IsWhole c len → (l : ℕ) → 0 < tag_at c.tags.items l → l < c.lines.written
  row_there c len w l some = search (rules, cases_lt)

  -- so has the line of a block that is in it
  pub row_of : (place : ℕ → List ℕ → ℕ → ℕ) (c : Body X) (view : Kept X) (len b l : ℕ) → kept_of c ≡ view → IsWhole c len → l ≡ line_by place (kept_of c) b → 0 < tag_at view.tags (line_by place view b)
      → l < c.lines.written
  row_of place c view len b l is w at some =
      row_there c len w l (subst (λ m. 0 < tag_at c.tags.items m) (sym at) (subst (λ (q : Kept X). 0 < tag_at q.tags (line_by place q b)) (sym is) some))

pub length-over_part : {X : Type 0} (xs : List X) (a n : ℕ) (ws : List X) → length (over_part xs a n ws) ≡ length xs
length-over_part xs a n ws =
    omega (
      arith,
      length-append (take a xs) (over (part xs a n) ws ++ drop n (drop a xs)),
      length-append (over (part xs a n) ws) (drop n (drop a xs)),
      length-over (part xs a n) ws,
      length-take a xs,
      length-take n (drop a xs),
      length-drop a xs,
      length-drop n (drop a xs),
    )

-- the fields c become d, and the backing's format and codes f and k become g and k'
module _ (place : ℕ → List ℕ → ℕ → ℕ) (may_hold : ℕ → ℕ → ℕ → Type 0) (rule : IsRule place may_hold) {X Code : Type 0} (value : X → ℤ)
    (c d : Body X) (f g : Format Code) (k k' : ℕ → Code) (same : g ≡ f) (s : IsSound place value c f k) where
  abbrev n : ℕ
  n = length c.tags.items

  abbrev pub fit : Fit place value f n c.lines.blocks c.tags.items k
  fit = fit_of place value f (kept_of c) k n refl s.fits

  abbrev before : State Code
  before = standing_at place value f n c.lines.blocks c.tags.items (counts_of c.counts) k

  before_is : state_at place value (kept_of c) f k ≡ before
  before_is = state_stands place value f (kept_of c) k n refl

  -- what the new fields and codes are gives that they are sound, and which state they stand for
  became : {w : ℕ} {rows : List (List X)} {tags : List ℕ} {counts : Counts} {codes : ℕ → Code} {t : State Code} → d.lines ≡ record { blocks = rows; written = w } → d.tags.items ≡ tags
      → counts_of d.counts ≡ counts → k' ≡ codes → length tags ≡ n → HasSize rows n f.block_len → IsBlank w tags → Fit place value f n rows tags codes → standing_at place value f n rows tags counts codes ≡ t
      → IsSound place value d g k' × (state_at place value (kept_of d) g k' ≡ t)
  became {w} {rows} {tags} {codes = codes} el et ec ek long size blank fits is =
      let tags_are : length d.tags.items ≡ n = ap length et ∙ long in
      let rows_are : d.lines.blocks ≡ rows = ap (λ (q : Seen X). q.blocks) el in
      let whole = whole_as c d f.block_len s.whole tags_are (subst (λ rs. HasSize rs n f.block_len) (sym rows_are) size)
      (subst (λ (q : Seen X). IsBlank q.written d.tags.items) (sym el) (subst (IsBlank w) (sym et) blank)) in
      let fit = subst (λ rs. Fit place value f n rs d.tags.items k') (sym rows_are) (subst (λ ts. Fit place value f n rows ts k') (sym et) (subst (Fit place value f n rows tags) (sym ek) fits)) in (
        subst (λ h. IsSound place value d h k') (sym same) (record { whole = whole; fits = fits_of place value f (kept_of d) k' n tags_are fit }),
        ap (λ h. state_at place value (kept_of d) h k') same ∙ state_stands place value f (kept_of d) k' n tags_are ∙ (λ i. standing_at place value f n (rows_are i) (et i) (ec i) (ek i)) ∙ is,
      )

  -- a block that is not in the line where it is looked for is in none, also once that line is empty
  pub none_in : (b l : ℕ) → place n c.tags.items b ≡ l → l < n → tag_at c.tags.items l / 2 ≢ b + 1 → IsAway (set c.tags.items l 0) b
  none_in b l at lt ne m e = search (rules, cases_eq, tag-set_same, named, tag-set_other)

  module _ (l : ℕ) (lt : l < n) where
    pub evicts : (o : Option ℕ) → dirty_of (tag_at c.tags.items l) ≡ o → d.lines ≡ c.lines → d.tags.items ≡ set c.tags.items l 0
        → counts_of d.counts ≡ counts_after place value f n may_hold rule c.lines.blocks c.tags.items (counts_of c.counts) k fit l lt o
        → k' ≡ codes_after place value f n may_hold rule c.lines.blocks c.tags.items (counts_of c.counts) k fit l lt o
        → IsSound place value d g k' × (state_at place value (kept_of d) g k' ≡ evicted f (state_at place value (kept_of c) f k) l)
    evicts o dirty el et ec ek =
        became el et ec ek (length-set c.tags.items l 0) s.whole.size (still_blank c.lines.written c.tags.items l 0 lt (λ past. refl) s.whole.blank)
        (fits_after place value f n may_hold rule c.lines.blocks c.tags.items (counts_of c.counts) k fit l lt o dirty)
        (empties place value f n may_hold rule c.lines.blocks c.tags.items (counts_of c.counts) k fit l lt o dirty ∙ ap (λ t. evicted f t l) (sym before_is))

    pub evicts_below : (b : ℕ) → dirty_of (tag_at c.tags.items l) ≡ Some b → b < f.blocks
    evicts_below = dirty_below place value f n may_hold rule c.lines.blocks c.tags.items (counts_of c.counts) k fit l lt

    module _ (b : ℕ) (row : List X) (long : length row ≡ f.block_len) where
      has_row : l < length c.lines.blocks
      has_row = omega (arith, lt, s.whole.size.0)

      -- w lines are written then, of which line l is one
      pub takes : (w : ℕ) → c.lines.written ≤ w → l < w → may_hold n b l → tag_at c.tags.items l ≡ 0 → IsAway c.tags.items b → existing_of f b (map value row) ≡ meant f b (k b) → b < f.blocks
          → d.lines ≡ record { blocks = set c.lines.blocks l row; written = w } → d.tags.items ≡ set c.tags.items l (clean_tag b)
          → counts_of d.counts ≡ record (counts_of c.counts) { misses = risen c.counts.misses } → k' ≡ k
          → IsSound place value d g k' × (state_at place value (kept_of d) g k' ≡ taken_in (state_at place value (kept_of c) f k) l b)
      takes w more there may none away loaded below el et ec ek =
          became el et ec ek (length-set c.tags.items l (clean_tag b)) (HasSize-set c.lines.blocks n f.block_len l row s.whole.size lt long)
          (still_blank w c.tags.items l (clean_tag b) lt (λ past. absurd (omega (arith, past, there))) (λ m past. s.whole.blank m (omega (arith, past, more))))
          (fits_taken place value f n may_hold rule c.lines.blocks c.tags.items (counts_of c.counts) k fit l lt b has_row row may none away loaded below)
          (takes_in place value f n may_hold rule c.lines.blocks c.tags.items (counts_of c.counts) k fit l lt b has_row row may none away loaded ∙ ap (λ t. taken_in t l b) (sym before_is))

      pub writes_row : tag_at c.tags.items l ≡ dirty_tag b → d.lines ≡ record c.lines { blocks = set c.lines.blocks l row } → d.tags.items ≡ c.tags.items → counts_of d.counts ≡ counts_of c.counts → k' ≡ k
          → IsSound place value d g k' × (state_at place value (kept_of d) g k' ≡ with_values (state_at place value (kept_of c) f k) b (existing_of f b (map value row)))
      writes_row is el et ec ek =
          became el et ec ek refl (HasSize-set c.lines.blocks n f.block_len l row s.whole.size lt long) s.whole.blank
          (fits_written place value f n may_hold rule c.lines.blocks c.tags.items (counts_of c.counts) k fit l lt b has_row row is)
          (writes place value f n may_hold rule c.lines.blocks c.tags.items (counts_of c.counts) k fit l lt b has_row row is ∙ ap (λ t. with_values t b (existing_of f b (map value row))) (sym before_is))

    pub soils_line : (b : ℕ) → tag_at c.tags.items l / 2 ≡ b + 1 → d.lines ≡ c.lines → d.tags.items ≡ set c.tags.items l (dirty_tag b)
        → counts_of d.counts ≡ counts_of c.counts → k' ≡ k
        → IsSound place value d g k' × (state_at place value (kept_of d) g k' ≡ soiled (state_at place value (kept_of c) f k) b)
    soils_line b half el et ec ek =
        let there = row_there c f.block_len s.whole l (omega (arith, half)) in
        became el et ec ek (length-set c.tags.items l (dirty_tag b)) s.whole.size
        (still_blank c.lines.written c.tags.items l (dirty_tag b) lt (λ past. absurd (omega (arith, past, there))) s.whole.blank)
        (fits_soiled place value f n may_hold rule c.lines.blocks c.tags.items (counts_of c.counts) k fit l lt b half)
        (soils place value f n may_hold rule c.lines.blocks c.tags.items (counts_of c.counts) k fit l lt b half ∙ ap (λ t. soiled t b) (sym before_is))

  pub hits_block : (b l : ℕ) → tag_at c.tags.items l / 2 ≡ b + 1 → d.lines ≡ c.lines → d.tags.items ≡ c.tags.items
      → counts_of d.counts ≡ record (counts_of c.counts) { hits = risen c.counts.hits } → k' ≡ k
      → IsSound place value d g k' × (state_at place value (kept_of d) g k' ≡ touch_in f (state_at place value (kept_of c) f k) l b)
  unfolding hit
  hits_block b l half el et ec ek =
      became el et ec ek refl s.whole.size s.whole.blank fit
      (touches_here f before b l (names (tag_at c.tags.items l) b half) ∙ ap (λ t. touch_in f t l b) (sym before_is))

-- a line emptied, and the block taken in, is a touch of a block that was not there
pub misses_block : (place : ℕ → List ℕ → ℕ → ℕ) {X Code : Type 0} (value : X → ℤ) (c : Body X) (f : Format Code) (k : ℕ → Code) (b l : ℕ) (t u : State Code)
    → tag_at c.tags.items l / 2 ≢ b + 1 → t ≡ evicted f (state_at place value (kept_of c) f k) l → u ≡ taken_in t l b → u ≡ touch_in f (state_at place value (kept_of c) f k) l b
misses_block place value c f k b l t u away first second = search (rules, standing_at, state_stands, touches_away, named)

-- ---- one line alone

pub only_line : {X : Type 0} (c d : Kept X) (l x : ℕ) → l < length c.tags → d.lines ≡ set c.lines l (line_at d.lines l) → d.tags ≡ set c.tags l x → OnlyLine c d l
only_line c d l x lt lines tags = search (rules, tag-set_same)

-- the tag of that line changed once more
pub only_line_again : {X : Type 0} (c d e : Kept X) (l x : ℕ) → l < length c.tags → OnlyLine c d l → e.lines ≡ d.lines → e.tags ≡ set d.tags l x → OnlyLine c e l
only_line_again c d e l x lt h lines tags =
    only_line c e l x lt (lines ∙ h.lines ∙ ap (λ ls. set c.lines l (line_at ls l)) (sym lines)) (tags ∙ ap (λ ts. set ts l x) h.tags ∙ set-set c.tags l (tag_at d.tags l) x)

pub same_length : {X : Type 0} (c d : Kept X) (l : ℕ) → OnlyLine c d l → length d.tags ≡ length c.tags
same_length c d l h = ap length h.tags ∙ length-set c.tags l (tag_at d.tags l)

-- the line of a block that was touched is one, before and after
pub line_below : (place : ℕ → List ℕ → ℕ → ℕ) (may_hold : ℕ → ℕ → ℕ → Type 0) → IsRule place may_hold → {X Code : Type 0} (value : X → ℤ) (t : Body X) (h : Format Code) (j : ℕ → Code) → IsSound place value t h j
    → (c : Kept X) (b l : ℕ) → ComesTo place c (kept_of t) b l → (l < length t.tags.items) × (l < length c.tags)
line_below place may_hold rule value t h j sound c b l to = search (rules, same_length)

-- ---- what a touch comes to

module _ {X : Type 0} (place : ℕ → List ℕ → ℕ → ℕ) (c d : Kept X) (b l : ℕ) where
  -- the line that holds the block
  pub comes_hitting : l ≡ line_by place c b → l < length c.lines → tag_at c.tags l / 2 ≡ b + 1 → d.lines ≡ c.lines → d.tags ≡ c.tags → ComesTo place c d b l
  comes_hitting at row here lines tags = search (rules, set-get_or)

  -- the line that has taken it in
  pub comes_missing : l ≡ line_by place c b → l < length c.lines → l < length c.tags → d.lines ≡ set c.lines l (line_at d.lines l) → d.tags ≡ set c.tags l (clean_tag b) → ComesTo place c d b l
  comes_missing at row lt lines tags = search (rules, length-set, tag-set_same, only_line)

  -- the line whose block is dirty now
  pub comes_soiling : (e : Kept X) → ComesTo place c d b l → (l < length d.tags) × (l < length c.tags) → e.lines ≡ d.lines → e.tags ≡ set d.tags l (dirty_tag b) → ComesTo place c e b l
  comes_soiling e to lt lines tags = search (rules, tag-set_same, only_line_again)

-- ---- the values of a block that is in its line

pub values_there : (place : ℕ → List ℕ → ℕ → ℕ) {X Code : Type 0} (value : X → ℤ) (f : Format Code) (c : Kept X) (k : ℕ → Code) (b l : ℕ) → place (length c.tags) c.tags b ≡ l → tag_at c.tags l / 2 ≡ b + 1
    → (state_at place value c f k).values b ≡ existing_of f b (map value (line_at c.lines l))
values_there place value f c k b l own half = search (rules, state_stands, vals-in, names)

-- where each block has one line
pub values_here : {X Code : Type 0} (value : X → ℤ) (f : Format Code) (c : Kept X) (k : ℕ → Code) (b l : ℕ) → b % length c.tags ≡ l → tag_at c.tags l / 2 ≡ b + 1
    → (state_of value c f k).values b ≡ existing_of f b (map value (line_at c.lines l))
values_here value f c k b l own half = values_there one_line value f c k b l own half

-- a value put into a block, at the places that exist
pub existing_of-set : {Code : Type 0} (f : Format Code) (b : ℕ) (xs : List ℤ) (p : ℕ) (v : ℤ) → length xs ≡ f.block_len → p < f.block_len
    → existing_of f b (set xs p v) ≡ existing_of f b (set (existing_of f b xs) p v)
existing_of-set f b xs p v long lt =
    existing_of_same f b (set xs p v) (set (existing_of f b xs) p v) (λ q h e.
    search (rules, cases_eq, get_or-set_same, length-existing_of, get_or-set_other, get_or-existing_of_exists))

-- nothing is dirty where a clean block comes into a line
pub stays_clean : {X : Type 0} (c d : Kept X) (l b : ℕ) → l < length c.tags → IsClean c → d.tags ≡ set c.tags l (clean_tag b) → IsClean d
stays_clean c d l b lt clean tags m = search (rules, cases_eq, tag-set_same, tag-set_other)
