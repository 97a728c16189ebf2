-- The steps of a script keep the array in a state that is reached, and the window in the array.
use Rattle.std.proofs.Common.{◌≡◌, ◌≢◌, refl, sym, ap, subst, ◌∙◌, ℕ, zero, suc, ◌<◌, ◌≤◌, ℤ, Bool, true, false, ◌&&◌, not, cond, eqb, eqb-true, List, [], ◌∷◌, map, length, set, replicate, Option, Some, None, is_none, is_some, ◌⊎◌, inl, inr, arith, rules}
use Rattle.std.{specs.Int.{Width}, proofs.lemmas.Bool.{and_parts, not-false, false_from_ne_true, cases_eq, ltb-true}}
use Rattle.std.{proofs.lemmas.List.{length-set, get_or-set_same, get_or-set_other}, specs.List.{list_all}}
use Rattle.zf_spec.proofs.Counting.{length-map-upto, get_or-map-upto}
use Rattle.zf_spec.specs.Grid.{IsShape, upto, is_inside}
use Rattle.zf_base.{specs.Places.{block_number, place_of}, specs.Shapes.{shape_fault}}
use Rattle.zf_base.{specs.Formats.{Format, existing_of, meant}, proofs.Places.{IsAt-position}}
use Rattle.zf_base.proofs.Formats.{with_at-same, existing_of-existing_of, existing_of-set}
use Rattle.zf_base.proofs.Sizes.{shape_from_no_fault}
use Rattle.zf_cached.{specs.State.{State}, specs.Touch.{soiled}, specs.Changes.{flush, raised}}
use Rattle.zf_cached.{specs.Arrays.{array_format}, specs.Windows.{LiesIn, mapped, whole, has_place}}
use Rattle.zf_cached.{specs.Commands.{Command}, specs.Replies.{Refusal, Reply}, specs.Acts.{Act}}
use Rattle.zf_cached.{specs.Grammar.{is_writable, has_axes, is_number, is_value}, proofs.Powers.{raised-some}}
use Rattle.zf_cached.specs.Steps.{Setting, Session, format_of, touched, changed, changed_at, filled_below, summed, is_split, views_in, views_of, state_of_view, with_view, by_view, at_position, split_into, flushed_views, joined, refuses_split, is_new_shape, has_view, view_has, tests, first_refusal, refusal, done, step}
use Rattle.zf_cached.{specs.Views.{View, with_codes, without_codes, acted}, proofs.Parts.{one_owner}}
use Rattle.zf_cached.specs.Splits.{is_owner, opened_view, opened_views, no_view, view_at, coded}
use Rattle.zf_cached.specs.Consistency.{every, IsPossible, IsConsistent, IsCached, IsEmpty, IsSound}
use Rattle.zf_cached.proofs.Placed.{empty-consistent, touch-consistent, touched_here, soiled-consistent, with_values-consistent, flush-consistent, flush-empty, discard-consistent, relined-consistent, resized-consistent}
use Rattle.zf_cached.proofs.Windows.{mapped_inside, length-mapped, LiesIn-whole, LiesIn-sliced}
use Rattle.zf_cached.specs.Placing.{Line, IsPlacing, direct, IsDirect, direct_placing, line_in}
use Rattle.zf_cached.proofs.Acting.{acted-codes, acted-consistent}

-- a command that is not refused though it needs no split: there is none
alone : (t : Bool) → elim t as (λ x. Bool) [ true ↦ true | false ↦ false ] ≡ false → t ≡ false
alone true e = absurd (cc)
alone false e = refl

pub as_many : (d : ℕ) (ns : List ℕ) → has_axes d ns ≡ true → length ns ≡ d
as_many d ns h = eqb-true (length ns) d (and_parts (eqb (length ns) d) (list_all is_number ns) h).0

pub as_many_of : (d : ℕ) (ns : List ℕ) (v : ℤ) → (has_axes d ns && is_value v) ≡ true → length ns ≡ d
as_many_of d ns v h = as_many d ns (and_parts (has_axes d ns) (is_value v) h).0

-- a command that is not refused: its numbers are as many as there are axes, and no test refuses it
pub record IsTaken {Code : Type 0} (setting : Setting Code) (s : Session Code) (c : Command) : Type 0 where
  pub writable : is_writable (length s.shape) c ≡ true
  pub split : refuses_split s c ≡ false
  pub size : (tests setting s c).size ≡ false
  pub range : (tests setting s c).range ≡ false

pub refusal_none : (p a b v m : Bool) → first_refusal p a b v m ≡ None → (p ≡ false) × (a ≡ false) × (b ≡ false)
refusal_none false false false v m e = (refl, refl, refl)
refusal_none p a b v m e = absurd (cc)

-- a step by whether the command is refused
pub step_by : {Code : Type 0} (setting : Setting Code) (s : Session Code) (c : Command) (starving : Bool) (P : Session Code × Option Reply → Type 0)
    → ((why : Refusal) → refusal setting s c starving ≡ Some why → P (s, Some (Reply.refused why))) → (refusal setting s c starving ≡ None → P (done setting s c)) → P (step setting s c starving)
unfolding step
step_by {Code} setting s c starving P refuses takes = by (refusal setting s c starving) refuses takes
  where
    by : (r : Option Refusal) → ((why : Refusal) → r ≡ Some why → P (s, Some (Reply.refused why))) → (r ≡ None → P (done setting s c))
        → P (elim r [ Some why ↦ (s, Some (Reply.refused why)) | None ↦ done setting s c ])
    by None refuses takes = takes refl
    by (Some why) refuses takes = refuses why refl

-- ---- private views

-- an array that isn't split has no views
pub no_views : (o : Option (List View)) → is_some o ≡ false → (i : ℕ) → i < length (views_in o) → ⊥
no_views None none i lt = omega (arith, lt)
no_views (Some views) none i lt = cc

-- the blocks of view i
abbrev owner_in : {Code : Type 0} → Setting Code → Session Code → ℕ → ℕ → Bool
owner_in setting s i = is_owner (format_of setting s).blocks (length (views_of s)) i

-- a position that a view has is in a block of its own, at a place that exists
view_owns : {Code : Type 0} (setting : Setting Code) (s : Session Code) (i : ℕ) (ps : List ℕ) → not (view_has s i ps) ≡ false → length ps ≡ length s.shape
    → (i < length (views_of s)) × (owner_in setting s i (block_number s.shape ps) ≡ true) × ((format_of setting s).exists (block_number s.shape ps) (place_of ps) ≡ true)
unfolding array_format
view_owns setting s i ps has same =
    let there = and_parts (has_view s i) _ (not-false (view_has s i ps) has) in
    let inside = and_parts (is_inside s.shape ps) _ there.1 in
    (ltb-true i (length (views_of s)) there.0, inside.1, (IsAt-position s.shape ps same inside.0).exists)

module _ {Code : Type 0} (format : Format Code) where
  -- a view of which other codes change alone
  recoded : (owned : ℕ → Bool) (v : View) (k j : ℕ → Code) → ((b : ℕ) → owned b ≡ true → j b ≡ k b) → IsConsistent direct owned format (with_codes v k) → IsConsistent direct owned format (with_codes v j)
  recoded owned v k j same h =
      let coded : (b : ℕ) → owned b ≡ true → v.dirty b ≡ false → v.values b ≡ meant format b (j b) = λ b own clean. h.clean_is_coded b own clean ∙ ap (meant format b) (sym (same b own)) in
      search rules

  opened_views-consistent : (codes : ℕ → Code) (lines n : ℕ) → 1 ≤ lines → (i : ℕ) → i < length (opened_views format codes lines n)
      → IsConsistent direct (is_owner format.blocks (length (opened_views format codes lines n)) i) format (with_codes (view_at (opened_views format codes lines n) i) codes)
  unfolding opened_views opened_view
  opened_views-consistent codes lines n some i lt =
      let made : ℕ → View = λ k. opened_view format codes lines (is_owner format.blocks n k) in
      let long : length (map made (upto n)) ≡ n = length-map-upto made n in
      let at : view_at (map made (upto n)) i ≡ made i = get_or-map-upto made n i no_view (subst (λ m. i < m) long lt) in
      subst (λ m. IsConsistent direct (is_owner format.blocks m i) format (with_codes (view_at (map made (upto n)) i) codes)) (sym long)
      (subst (λ v. IsConsistent direct (is_owner format.blocks n i) format (with_codes v codes)) (sym at)
      (empty-consistent direct IsDirect direct_placing (is_owner format.blocks n i) format (with_codes (made i) codes) some (record { none_dirty = λ b. refl; none_held = λ l b e. absurd (cc) })
      (λ b own. ap (λ t. cond t (meant format b (codes b)) []) own)))

  -- the views after an act of one of them
  viewed : (w : Width) (views : List View) (codes : ℕ → Code) (i : ℕ) (act : Act) → i < length views → IsPossible (is_owner format.blocks (length views) i) format act
      → ((j : ℕ) → j < length views → IsConsistent direct (is_owner format.blocks (length views) j) format (with_codes (view_at views j) codes))
      → (let t = acted w format (with_codes (view_at views i) codes) act in let news = set views i (without_codes t) in
      (j : ℕ) → j < length news → IsConsistent direct (is_owner format.blocks (length news) j) format (with_codes (view_at news j) t.codes))
  viewed w views codes i act lt may each j below =
      let long : length news ≡ length views = length-set views i (without_codes t) in
      subst (λ m. IsConsistent direct (is_owner format.blocks m j) format (with_codes (view_at news j) t.codes)) (sym long) (by (cases_eq j i) (subst (λ m. j < m) long below))
    where
      s : State Code
      s = with_codes (view_at views i) codes

      t : State Code
      t = acted w format s act

      news : List View
      news = set views i (without_codes t)

      Has : ℕ → View → Type 0
      Has k v = IsConsistent direct (is_owner format.blocks (length views) k) format (with_codes v t.codes)

      stays : j ≢ i → (b : ℕ) → is_owner format.blocks (length views) j b ≡ true → t.codes b ≡ codes b
      stays ne b own = acted-codes w format s act b (false_from_ne_true (s.dirty b) (λ e. one_owner format.blocks (length views) (omega (arith, lt)) j i b ne own ((each i lt).held_is_owned _ b ((each i lt).dirty_is_here b e))))

      by : (j ≡ i) ⊎ (j ≡ i → ⊥) → j < length views → Has j (view_at news j)
      by (inl e) under =
          subst (λ k. Has k (view_at news k)) (sym e)
          (subst (Has i) (sym (get_or-set_same views i (without_codes t) no_view lt)) (acted-consistent w format (is_owner format.blocks (length views) i) s (each i lt) act may))
      by (inr ne) under =
          subst (Has j) (sym (get_or-set_other views i j (without_codes t) no_view ne)) (recoded (is_owner format.blocks (length views) j) (view_at views j) codes t.codes (stays ne) (each j under))

pub flushed_views-count : {Code : Type 0} (setting : Setting Code) (s : Session Code) (n : ℕ) → length (views_of (flushed_views setting s n)) ≡ length (views_of s)
unfolding flushed_views by_view with_view
flushed_views-count setting s zero = refl
flushed_views-count setting s (suc n) = length-set (views_of (flushed_views setting s n)) n _ ∙ flushed_views-count setting s n

module _ (line : Line) (may_hold : ℕ → ℕ → ℕ → Type 0) (placing : IsPlacing line may_hold) where
  -- what holds of the state of a touch, and where the block is then
  touched_state : {Code : Type 0} (setting : Setting Code) (s : Session Code) (b : ℕ) → IsCached line setting → IsSound line setting s
      → let t = (touched setting s b).state in IsConsistent line every (format_of setting s) t × (t.held (line_in line t b) ≡ Some b)
  unfolding touched
  touched_state setting s b cached h =
      let format = format_of setting s in
      subst (λ f. let t = f format s.state b in IsConsistent line every format t × (t.held (line_in line t b) ≡ Some b)) (sym cached.touches)
      (touch-consistent line may_hold placing every format s.state b refl h.state, touched_here line may_hold placing every format s.state b refl h.state)

  -- the sizes and the window are not changed by a touch
  with_state : {Code : Type 0} (setting : Setting Code) (s : Session Code) (t : State Code) → is_split s ≡ false → IsSound line setting s → IsConsistent line every (format_of setting s) t → IsSound line setting (record s { state = t })
  with_state setting s t none h k = record { shape = h.shape; state = k; window = h.window; split = λ e. absurd (cc); views = λ i lt. absurd (no_views s.split none i lt) }

  pub touched-sound : {Code : Type 0} (setting : Setting Code) (s : Session Code) (b : ℕ) → IsCached line setting → is_split s ≡ false → IsSound line setting s → IsSound line setting (touched setting s b)
  unfolding touched
  touched-sound setting s b cached none h = with_state setting s _ none h (touched_state setting s b cached h).0

  -- a change that keeps a block's values whole
  changed-sound : {Code : Type 0} (setting : Setting Code) (s : Session Code) (b : ℕ) (change : List ℤ → List ℤ) → ((vs : List ℤ) → existing_of (format_of setting s) b vs ≡ vs → existing_of (format_of setting s) b (change vs) ≡ change vs)
      → IsCached line setting → is_split s ≡ false → IsSound line setting s → IsSound line setting (changed setting s b change)
  unfolding changed soiled
  changed-sound {Code} setting s b change whole cached none h =
      let k = touched_state setting s b cached h in
      let t : State Code = soiled (touched setting s b).state b in
      let soil : IsConsistent line every (format_of setting s) t = soiled-consistent line may_hold placing every (format_of setting s) (touched setting s b).state b k.1 k.0 in
      with_state setting s _ none h (with_values-consistent line may_hold placing every (format_of setting s) t b (change (t.values b)) (with_at-same (touched setting s b).state.dirty b true) (whole (t.values b) (soil.whole b refl)) soil)

  changed_at-sound : {Code : Type 0} (setting : Setting Code) (s : Session Code) (ps : List ℕ) (change : ℤ → ℤ) → length ps ≡ length s.shape → is_inside s.shape ps ≡ true
      → IsCached line setting → is_split s ≡ false → IsSound line setting s → IsSound line setting (changed_at setting s ps change)
  unfolding changed_at array_format
  changed_at-sound setting s ps change same inside cached none h =
      let at = IsAt-position s.shape ps same inside in
      changed-sound setting s (block_number s.shape ps) _ (λ vs whole. existing_of-set (format_of setting s) (block_number s.shape ps) vs (place_of ps) _ at.exists whole) cached none h

  filled-sound : {Code : Type 0} (setting : Setting Code) (s : Session Code) (v : ℤ) (bs : List ℕ) → IsCached line setting → is_split s ≡ false → IsSound line setting s → IsSound line setting (filled_below setting s v bs)
  unfolding filled_below changed
  filled-sound setting s v [] cached none h = h
  filled-sound setting s v (b ∷ bs) cached none h =
      let format = format_of setting s in
      filled-sound setting (changed setting s b (λ values. existing_of format b (replicate format.block_len v))) v bs cached none
      (changed-sound setting s b (λ values. existing_of format b (replicate format.block_len v)) (λ vs whole. existing_of-existing_of format b (replicate format.block_len v)) cached none h)

  summed-sound : {Code X : Type 0} (setting : Setting Code) (block : X → ℕ) (found : X → List ℤ → ℤ) (xs : List X) (s : Session Code) → IsCached line setting → is_split s ≡ false → IsSound line setting s → IsSound line setting (summed setting block found xs s).0
  unfolding summed touched
  summed-sound setting block found [] s cached none h = h
  summed-sound setting block found (x ∷ xs) s cached none h =
      summed-sound setting block found xs (touched setting s (block x)) cached none (touched-sound setting s (block x) cached none h)

  -- ---- private views

  by_view-sound : {Code : Type 0} (setting : Setting Code) (s : Session Code) (i : ℕ) (act : Act) → i < length (views_of s) → IsPossible (owner_in setting s i) (format_of setting s) act
      → IsSound line setting s → IsSound line setting (by_view setting s i act).0
  unfolding by_view with_view coded
  by_view-sound setting s i act lt may h =
      let format = format_of setting s in
      let t = coded format s.state (acted setting.width format (state_of_view s i) act).codes in
      let e : IsEmpty t = record { none_dirty = λ b. refl; none_held = λ l b e. absurd (cc) } in
      let k = empty-consistent line may_hold placing every format t h.state.some_line e (λ b own. refl) in
      record { shape = h.shape; state = k; window = h.window; split = λ x. e; views = viewed (format_of setting s) setting.width (views_of s) s.state.codes i act lt may h.views }

  pub flushed_views-sound : {Code : Type 0} (setting : Setting Code) (s : Session Code) (n : ℕ) → n ≤ length (views_of s) → IsSound line setting s → IsSound line setting (flushed_views setting s n)
  unfolding flushed_views
  flushed_views-sound setting s zero most h = h
  flushed_views-sound setting s (suc n) most h =
      by_view-sound setting (flushed_views setting s n) n Act.flush (omega (arith, most, flushed_views-count setting s n)) tt (flushed_views-sound setting s n (omega (arith, most)) h)

  pub joined-sound : {Code : Type 0} (setting : Setting Code) (s : Session Code) → IsSound line setting s → IsSound line setting (joined setting s)
  unfolding joined
  joined-sound setting s h =
      let k = flushed_views-sound setting s (length (views_of s)) (omega arith) h in
      record { shape = k.shape; state = k.state; window = k.window; split = λ e. absurd (cc); views = λ i lt. absurd (omega (arith, lt)) }

  split_into-sound : {Code : Type 0} (setting : Setting Code) (s : Session Code) (n lines : ℕ) → 1 ≤ lines → IsSound line setting s → IsSound line setting (split_into setting s n lines)
  unfolding split_into
  split_into-sound setting s n lines some h = record {
    shape = h.shape;
    state = flush-consistent line may_hold placing every (format_of setting s) s.state h.state;
    window = h.window;
    split = λ e. flush-empty line may_hold placing every (format_of setting s) s.state h.state;
    views = opened_views-consistent (format_of setting s) (flush (format_of setting s) s.state).codes lines n some;
  }

  -- ---- commands

  pub done-sound : {Code : Type 0} (setting : Setting Code) (s : Session Code) (c : Command) → IsTaken setting s c → IsCached line setting → IsSound line setting s → IsSound line setting (done setting s c).0
  unfolding done
  done-sound setting s (Command.get ps) t cached h = touched-sound setting s (block_number s.shape ps) cached (alone (is_split s) t.split) h
  done-sound setting s (Command.set ps v) t cached h =
      changed_at-sound setting s ps (λ old. v) (as_many_of (length s.shape) ps v t.writable) (not-false (is_inside s.shape ps) t.range) cached (alone (is_split s) t.split) h
  done-sound setting s (Command.add ps v) t cached h =
      changed_at-sound setting s ps _ (as_many_of (length s.shape) ps v t.writable) (not-false (is_inside s.shape ps) t.range) cached (alone (is_split s) t.split) h
  done-sound setting s (Command.fill v) t cached h = filled-sound setting s v (upto (format_of setting s).blocks) cached (alone (is_split s) t.split) h
  done-sound setting s Command.sum t cached h = summed-sound setting _ _ (upto (format_of setting s).blocks) s cached (alone (is_split s) t.split) h
  done-sound setting s (Command.view origin size step) t cached h =
      let w : LiesIn s.shape (record { origin = origin; size = size; step = step }) = search (rules, and_parts, as_many, not-false, t.writable, t.size) in
      record { shape = h.shape; state = h.state; window = w; split = h.split; views = h.views }
  done-sound setting s (Command.slice axis at) t cached h =
      record { shape = h.shape; state = h.state; window = LiesIn-sliced s.shape s.window axis at h.window (not-false (has_place s.window axis at) t.range); split = h.split; views = h.views }
  done-sound setting s (Command.vget ps) t cached h = touched-sound setting s (block_number s.shape (mapped s.window ps)) cached (alone (is_split s) t.split) h
  done-sound setting s (Command.vset ps v) t cached h =
      let same : length ps ≡ length s.window.size = as_many_of (length s.shape) ps v t.writable ∙ sym h.window.sizes in
      changed_at-sound setting s (mapped s.window ps) (λ old. v) (length-mapped s.shape s.window ps h.window same)
      (mapped_inside s.shape s.window h.window ps (not-false (is_inside s.window.size ps) t.range) same) cached (alone (is_split s) t.split) h
  done-sound setting s Command.vsum t cached h = summed-sound setting _ _ _ s cached (alone (is_split s) t.split) h
  done-sound setting s Command.flush t cached h = with_state setting s _ (alone (is_split s) t.split) h (flush-consistent line may_hold placing every (format_of setting s) s.state h.state)
  done-sound setting s Command.discard t cached h = with_state setting s _ (alone (is_split s) t.split) h (discard-consistent line may_hold placing every (format_of setting s) s.state h.state)
  done-sound setting s (Command.lines l) t cached h = with_state setting s _ (alone (is_split s) t.split) h (relined-consistent line may_hold placing every (format_of setting s) s.state (raised l) (raised-some l) h.state)
  done-sound setting s (Command.resize ns) t cached h =
      let parts = and_parts (eqb (length ns) (length s.shape)) _ (not-false (is_new_shape setting s ns) t.size) in
      let none = (and_parts (is_none (shape_fault ns)) (setting.has_room ns) parts.1).0 in
      let as_before : length ns ≡ length s.shape = eqb-true (length ns) (length s.shape) parts.0 in
      let shape : IsShape ns = shape_from_no_fault ns (omega (arith, h.shape.some_dimension)) (omega (arith, h.shape.four_at_most)) none in
      record {
        shape = shape;
        state = resized-consistent line may_hold placing every (format_of setting s) (array_format setting.coding ns) setting.coding.zero s.state (cached.zero ns) h.state;
        window = LiesIn-whole ns shape.not_zero;
        split = λ e. let none = alone (is_split s) t.split in absurd (cc);
        views = λ i lt. absurd (no_views s.split (alone (is_split s) t.split) i lt);
      }
  done-sound setting s (Command.split n l) t cached h = split_into-sound setting s n (raised l) (raised-some l) h
  done-sound setting s Command.join t cached h = joined-sound setting s h
  done-sound setting s (Command.pget i ps) t cached h =
      let own = view_owns setting s i ps t.range (as_many (length s.shape) ps (and_parts (is_number i) _ t.writable).1) in
      by_view-sound setting s i (at_position s Act.get ps) own.0 own.1 h
  done-sound setting s (Command.pset i ps v) t cached h =
      let own = view_owns setting s i ps t.range (as_many_of (length s.shape) ps v (and_parts (is_number i) _ t.writable).1) in
      by_view-sound setting s i (at_position s (λ b p. Act.set b p v) ps) own.0 (own.1, own.2) h
  done-sound setting s (Command.padd i ps v) t cached h =
      let own = view_owns setting s i ps t.range (as_many_of (length s.shape) ps v (and_parts (is_number i) _ t.writable).1) in
      by_view-sound setting s i (at_position s (λ b p. Act.add b p v) ps) own.0 (own.1, own.2) h
  done-sound setting s (Command.pflush i) t cached h = by_view-sound setting s i Act.flush (ltb-true i (length (views_of s)) (not-false (has_view s i) t.range)) tt h
  done-sound setting s (Command.pdiscard i) t cached h = by_view-sound setting s i Act.discard (ltb-true i (length (views_of s)) (not-false (has_view s i) t.range)) tt h
  done-sound setting s x t cached h = h

  -- ---- steps

  pub step-sound : {Code : Type 0} (setting : Setting Code) (s : Session Code) (c : Command) (starving : Bool) → is_writable (length s.shape) c ≡ true → IsCached line setting → IsSound line setting s → IsSound line setting (step setting s c starving).0
  unfolding refusal
  step-sound setting s c starving writable cached h = step_by setting s c starving (λ r. IsSound line setting r.0) (λ why e. h)
      (λ e. let tests = refusal_none (refuses_split s c) (tests setting s c).size (tests setting s c).range (tests setting s c).value ((tests setting s c).memory && starving) e in
      done-sound setting s c (record { writable = writable; split = tests.0; size = tests.1; range = tests.2 }) cached h)
