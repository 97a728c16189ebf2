-- What a call of a view makes of an array that is split.
use Rattle.std.proofs.Common.{rules, ◌≡◌, ◌≢◌, ◌↔◌, refl, sym, ap, subst, ◌∙◌, ◌⊎◌, inl, inr, ℕ, ◌+◌, ◌<◌, ◌≤◌, ℤ, Bool, true, false, not, ◌&&◌, ltb, leb, List, length, get_or, set, Option, Some, None, arith}
use Rattle.std.{specs.Int.{Width}, specs.Option.{option_map}, proofs.Math.Path.{fun_ext}}
use Rattle.std.proofs.Math.Bool.{and-false}
use Rattle.std.proofs.lemmas.Bool.{false≢true, and_from, and_parts, lt-ltb, ltb-true, le-ltb, le-leb, leb-true, cases_eq}
use Rattle.std.proofs.lemmas.List.{get_or-map, get_or_default, map-set, length-map, length-set, get_or-set_other, get_or-set_same, ext_get_or}
use Rattle.std.proofs.lemmas.Grind.{get_or-set_at}
use Rattle.zf_spec.specs.Grid.{blocks, is_inside}
use Rattle.zf_base.{specs.Widths.{width_of}, specs.Places.{block_number}, specs.declared.position.Pos.{Pos}}
use Rattle.zf_base.{specs.Positions.{used_axes, with_unused, IsPosition}, specs.Formats.{Format, meant}}
use Rattle.zf_header.{specs.declared.header.Header.{Header}, specs.HeaderBits.{block_bits}}
use Rattle.zf_cached.{specs.State.{Counts, State, empty_line, none_dirty}, specs.Windows.{Window, LiesIn}}
use Rattle.zf_cached.{specs.Arrays.{rate_coding, array_format}, specs.Commands.{Command}, specs.Acts.{Act}}
use Rattle.zf_cached.{specs.Replies.{Reply}, specs.Ownership.{first_of, count_of}}
use Rattle.zf_cached.specs.Views.{View, with_codes, without_codes, acted, answered, IsWithin, HasOwn, AreAlike}
use Rattle.zf_cached.specs.Splits.{is_view_count, is_owner, no_view, view_at, coded}
use Rattle.zf_cached.specs.Steps.{Setting, Session, format_of, state_of_view, with_view, by_view, has_view, view_has, refuses_split, tests, done}
use Rattle.zf_cached.{specs.Runs.{array_setting}, proofs.Parts.{part_end, parts_apart}}
use Rattle.zf_cache.specs.Standing.{Fits, state_at}
use Rattle.zf_private.specs.Standing as private
use Rattle.zf_private.{specs.Standing.{Own, IsSameView, IsWhole}, proofs.Calls.{own_state}}
use Rattle.zf_private.proofs.Alike.{stay-acted, quiet-acted, alike-acted, alike-answered}
use Rattle.zf_private.{proofs.Others.{other_codes_alike}, proofs.Ready.{ready_after, ready_beside}, proofs.Several.{own-or-not}}
use Rattle.zf_array.{specs.Standing.{Held, shape, state, format}, specs.Coded.{IsCoded}}
use Rattle.zf_run.{specs.Sessions.{setting_of, kind}, proofs.Sessions.{rate_format, array_suits, still_array}}
use Rattle.zf_run.specs.Splits.{owns_block, view_state, view_of, views_seen, split_session, IsPart, AreParts}
use Rattle.zf_commands.{specs.Steps.{Does, HasWindow, starves}, proofs.Stepping.{accepted}}

-- ---- which blocks a view owns

owned-true : {X : Type 0} (v : private.Held X) (b : ℕ) → Own v b → owns_block v b ≡ true
owned-true v b o = and_from (leb v.first b) (ltb b (v.first + v.count)) (le-leb v.first b o.0) (lt-ltb b (v.first + v.count) o.1)

true-owned : {X : Type 0} (v : private.Held X) (b : ℕ) → owns_block v b ≡ true → Own v b
true-owned v b e = let parts = and_parts (leb v.first b) (ltb b (v.first + v.count)) e in (leb-true v.first b parts.0, ltb-true b (v.first + v.count) parts.1)

owned-false : {X : Type 0} (v : private.Held X) (b : ℕ) → (Own v b → ⊥) → owns_block v b ≡ false
owned-false v b not = search (rules, true-owned)

pub same_owned : {X : Type 0} (v n : private.Held X) → IsSameView v n → (b : ℕ) → owns_block n b ≡ owns_block v b
same_owned v n kept b = λ i. leb (kept.first i) b && ltb b (kept.first i + kept.count i)

-- a view's block by the numbers of the split
pub is_owner_is : {X : Type 0} (n k i : ℕ) (v : private.Held X) → 0 < k → v.first ≡ first_of n k i → v.count ≡ count_of n k i → (b : ℕ) → is_owner n k i b ≡ owns_block v b
is_owner_is n k i v some first count b =
    ap (λ m. leb (first_of n k i) b && ltb b m) (sym (part_end n k some i)) ∙ (λ j. leb (sym first j) b && ltb b (sym first j + sym count j))

module _ {X : Type 0} (value : X → ℤ) where
  -- ---- a view of the program as the language has it

  -- its state over the codes is that of the language in the blocks of its own
  seen_alike : (a : Held) (v : private.Held X) → AreAlike (Own v) (with_codes (view_of value a v) (state a).codes) (view_state value a v)
  unfolding state_at
  seen_alike a v = search (rules, owned-true)

  seen_own : (d : ℕ) (a : Held) (v : private.Held X) → IsWhole d v → HasOwn (Own v) (with_codes (view_of value a v) (state a).codes)
  seen_own d a v whole = let own = own_state value d v (format a) (state a).codes whole in record { held = own.held; dirty = own.dirty }

  -- the view with a number
  pub seen_at : (a : Held) (views : List (private.Held X)) (i : ℕ) (v : private.Held X) → i < length views → v ≡ get_or views i v → view_at (views_seen value a views) i ≡ view_of value a v
  seen_at a views i v lt at = get_or-map (view_of value a) views i v no_view lt ∙ ap (view_of value a) (sym at)

  -- of two arrays with the same codes of its blocks a view is the same
  seen_same : (d : ℕ) (a b : Held) (o : private.Held X) → IsWhole d o → format b ≡ format a → ((k : ℕ) → Own o k → (state b).codes k ≡ (state a).codes k) → view_of value b o ≡ view_of value a o
  unfolding state_at
  seen_same d a b o whole same codes = search (rules, other_codes_alike, fun_ext, own-or-not, owned-false)

-- ---- a call of view i: the act

-- what no act of a view changes of an array
abbrev pub FrameOf : Held → Header × ℕ × Counts
FrameOf a = (a.header, (state a).lines, (state a).counts)

-- what the clauses of a call say: view v becomes n, and the array a becomes b
pub record HasActed {X : Type 0} (value : X → ℤ) (w : Width) (d : ℕ) (v n : private.Held X) (a b : Held) (act : Act) : Type 0 where
  pub is_coded : IsCoded b
  pub step : view_state value b n ≡ acted w (format a) (view_state value a v) act
  pub others : (k : ℕ) → (Own v k → ⊥) → (state b).codes k ≡ (state a).codes k
  pub kept : IsSameView v n
  pub whole : IsWhole d n
  pub fits : Fits value n.cache (format b) (state b).codes

-- what is known of an array and its views after a call of view v, which becomes n
pub record HasTaken {X : Type 0} (value : X → ℤ) (w : Width) (d : ℕ) (a b : Held) (views : List (private.Held X)) (i : ℕ) (n : private.Held X) (act : Act) (answer : Option Reply) : Type 0 where
  pub parts : AreParts value w d b (set views i n)
  pub kind_is : kind b ≡ kind a
  pub acts : (u : Window) → (by_view (setting_of w a) (split_session value a views u) i act).0 ≡ split_session value b (set views i n) u
  -- a command that asks for the act, and passes all tests
  pub takes : (u : Window) (c : Command) (reply : Option Reply) → HasWindow (split_session value a views u) → refuses_split (split_session value a views u) c ≡ false
      → (tests (setting_of w a) (split_session value a views u) c).size ≡ false → (tests (setting_of w a) (split_session value a views u) c).range ≡ false → (tests (setting_of w a) (split_session value a views u) c).value ≡ false
      → answer ≡ reply → starves reply ≡ false
      → done (setting_of w a) (split_session value a views u) c ≡ by_view (setting_of w a) (split_session value a views u) i act
      → Does (setting_of w a) c (split_session value a views u) (split_session value b (set views i n) u) reply

module _ {X : Type 0} (value : X → ℤ) (w : Width) (d : ℕ) (a b : Held) (views : List (private.Held X)) (i : ℕ) (v n : private.Held X) (act : Act)
    (parts : AreParts value w d a views) (lt : i < length views) (at : v ≡ get_or views i v)
    (frame : FrameOf b ≡ FrameOf a) (has : HasActed value w d v n a b act) (within : IsWithin (Own v) act) where
  same : w ≡ width_of a.header.ty
  same = parts.array.same_type

  head : b.header ≡ a.header
  head = ap (λ (q : Header × ℕ × Counts). q.0) frame

  abbrev f : Format (List Bool)
  f = format a

  part : IsPart value d a (length views) i v
  part = parts.each i v lt at

  formats : format b ≡ format a
  formats = ap rate_format head

  -- the state of the view as the language has it, before
  abbrev seen : State (List Bool)
  seen = with_codes (view_of value a v) (state a).codes

  seen_is_own : HasOwn (Own v) seen
  seen_is_own = seen_own value d a v part.ready.whole

  -- and after
  abbrev after : State (List Bool)
  after = acted w f seen act

  after_alike : AreAlike (Own v) after (view_state value b n)
  after_alike = subst (AreAlike (Own v) after) (sym has.step) (alike-acted f (Own v) w seen (view_state value a v) act within seen_is_own (seen_alike value a v))

  codes_are : (k : ℕ) → after.codes k ≡ (state b).codes k
  unfolding state_at
  codes_are k = search (rules, own-or-not, after_alike, stay-acted, seen_is_own)

  values_are : (k : ℕ) → after.values k ≡ (view_of value b n).values k
  values_are k = search (rules, own-or-not, same_owned, owned-true, owned-false, quiet-acted, after_alike, seen_is_own)

  view_is : without_codes after ≡ view_of value b n
  view_is = λ j. record {
    lines = after_alike.lines j;
    held = after_alike.held j;
    dirty = after_alike.dirty j;
    values = fun_ext values_are j;
    counts = after_alike.counts j;
  }

  -- the array stands for the codes
  state_is : coded f (state a) after.codes ≡ state b
  unfolding coded
  state_is =
      let codes = fun_ext codes_are in
      (λ j. record { lines = (sym frame j).1; held = empty_line; dirty = none_dirty; values = λ k. meant (sym formats j) k (codes j k); codes = codes j; counts = (sym frame j).2 })
      ∙ sym has.is_coded

  -- another view owns none of its blocks
  apart : (k : ℕ) (o : private.Held X) → k < length views → o ≡ get_or views k o → k ≢ i → (m : ℕ) → Own v m → Own o m → ⊥
  apart k o below there ne m mine own =
      let p = parts.each k o below there in
      parts_apart (blocks (shape a)) (length views) (omega (arith, lt)) k i m ne (rw (← p.count, ← p.first) own) (rw (← part.count, ← part.first) mine)

  views_are : set (views_seen value a views) i (without_codes after) ≡ views_seen value b (set views i n)
  views_are =
      ap (set (views_seen value a views) i) view_is
      ∙ ext_get_or no_view (seen_in a) (seen_in b) (long a ∙ sym (long b)) (λ k below. at_place k (subst (λ m. k < m) (long a) below) (cases_eq k i))
      ∙ sym (map-set (view_of value b) views i n)
    where
      seen_in : Held → List View
      seen_in c = set (views_seen value c views) i (view_of value b n)

      long : (c : Held) → length (seen_in c) ≡ length views
      long c = length-set (views_seen value c views) i (view_of value b n) ∙ length-map views (view_of value c)

      here : (c : Held) (k : ℕ) → k ≡ i → get_or (seen_in c) k no_view ≡ view_of value b n
      here c k e = get_or-set_at (views_seen value c views) i k (view_of value b n) no_view e (omega (arith, lt, length-map views (view_of value c)))

      at_place : (k : ℕ) → k < length views → (k ≡ i) ⊎ (k ≡ i → ⊥) → get_or (seen_in a) k no_view ≡ get_or (seen_in b) k no_view
      at_place k below (inl e) = here a k e ∙ sym (here b k e)
      at_place k below (inr ne) =
          let o = get_or views k v in let there : o ≡ get_or views k o = get_or_default views k v o below in
          let x = view_of value b n in let p = parts.each k o below there in
          let other = seen_same value d a b o p.ready.whole formats (λ m own. has.others m (λ mine. apart k o below there ne m mine own)) in
          cc (get_or-set_other (views_seen value a views) i k x no_view ne, get_or-set_other (views_seen value b views) i k x no_view ne, seen_at value a views k o below there, seen_at value b views k o below there)

  -- the array and its views are what the act makes of them
  module _ (u : Window) where
    abbrev S : Setting (List Bool)
    S = setting_of w a

    abbrev before : Session (List Bool)
    before = split_session value a views u

    set_format : format_of S before ≡ f
    set_format = (array_suits w a.header same).coded

    acts_alike : acted S.width (format_of S before) (state_of_view before i) act ≡ after
    unfolding array_setting
    acts_alike = λ j. acted w (set_format j) (with_codes (seen_at value a views i v lt at j) (state a).codes) act

    acts : (by_view S before i act).0 ≡ split_session value b (set views i n) u
    unfolding by_view with_view
    acts =
        let come : State (List Bool) → Session (List Bool) = λ t. record before { state = coded (format_of S before) (state a) t.codes; split = Some (set (views_seen value a views) i (without_codes t)) } in
        ap come acts_alike
        ∙ (λ j. record { shape = (sym head j).shape; state = (ap (λ g. coded g (state a) after.codes) set_format ∙ state_is) j; window = u; split = Some (views_are j) })

    answers : (by_view S before i act).1 ≡ option_map Reply.number (answered (view_state value b n) act)
    unfolding by_view
    answers = ap (λ t. option_map Reply.number (answered t act)) acts_alike ∙ ap (option_map Reply.number) (alike-answered f (Own v) after (view_state value b n) act within after_alike)

  -- they are parts as before
  still_parts : AreParts value w d b (set views i n)
  still_parts = record {
    array = still_array w d a.header b.header head parts.array;
    is_coded = has.is_coded;
    number = subst (λ m. is_view_count (blocks (shape b)) m ≡ true) (sym (length-set views i n)) (subst (λ (h : Header). is_view_count (blocks h.shape) (length views) ≡ true) (sym head) parts.number);
    each = λ k o below there. subst (λ m. IsPart value d b m k o) (sym (length-set views i n)) (part_at k o (subst (λ m. k < m) (length-set views i n) below) there (cases_eq k i));
  }
    where
      part_at : (k : ℕ) (o : private.Held X) → k < length views → o ≡ get_or (set views i n) k o → (k ≡ i) ⊎ (k ≡ i → ⊥) → IsPart value d b (length views) k o
      part_at k o below there (inl e) = search (rules, ready_after, formats, get_or-set_same, part)
      part_at k o below there (inr ne) =
          let here : o ≡ get_or views k o = there ∙ get_or-set_other views i k n o ne in let p : IsPart value d a (length views) k o = parts.each k o below here in
          let ready = ready_beside value d f (format b) (state a).codes (state b).codes formats v o p.ready has.others (apart k o below here ne) in search rules

  pub taken : HasTaken value w d a b views i n act (option_map Reply.number (answered (view_state value b n) act))
  taken = record {
    parts = still_parts;
    kind_is = ap (λ (h : Header). (h.ty, h.mode)) head;
    acts = acts;
    takes = λ u c reply lies split size range value_is replies none asks.
        accepted (setting_of w a) c (split_session value a views u) lies split size range value_is (split_session value b (set views i n) u) reply none
        (asks ∙ (λ j. (acts u j, (answers u ∙ replies) j))) (subst (λ (h : Header). LiesIn h.shape u) (sym head) lies);
  }

-- ---- which view has a position

-- a position outside
pub not_inside : (ns : List ℕ) (p : Pos) → p ≡ with_unused 0 (used_axes (length ns) p) → (IsPosition ns p → ⊥) → is_inside ns (used_axes (length ns) p) ≡ false
not_inside ns p unused away = search rules

module _ {X : Type 0} (value : X → ℤ) (a : Held) (views : List (private.Held X)) (i : ℕ) (ps : List ℕ) where
  abbrev owner : Bool
  owner = is_owner (blocks (shape a)) (length views) i (block_number (shape a) ps)

  has_is : (u : Window) → view_has (split_session value a views u) i ps ≡ (ltb i (length views) && (is_inside (shape a) ps && owner))
  has_is u = ap (λ n. ltb i n && (is_inside (shape a) ps && is_owner (blocks (shape a)) n i (block_number (shape a) ps))) (length-map views (view_of value a))

  pub view_is_none : (u : Window) → length views ≤ i → view_has (split_session value a views u) i ps ≡ false
  view_is_none u many = has_is u ∙ ap (λ t. t && (is_inside (shape a) ps && owner)) (le-ltb i (length views) many)

  pub position_is_none : (u : Window) → is_inside (shape a) ps ≡ false → view_has (split_session value a views u) i ps ≡ false
  position_is_none u outside = has_is u ∙ ap (λ t. ltb i (length views) && (t && owner)) outside ∙ and-false (ltb i (length views))

  module _ (w : Width) (d : ℕ) (v : private.Held X) (parts : AreParts value w d a views) (lt : i < length views) (at : v ≡ get_or views i v) where
    owner_is : (k : ℕ) → is_owner (blocks (shape a)) (length views) i k ≡ owns_block v k
    owner_is k = let part = parts.each i v lt at in is_owner_is (blocks (shape a)) (length views) i v (omega (arith, lt)) part.first part.count k

    pub block_is_none : (u : Window) → (Own v (block_number (shape a) ps) → ⊥) → view_has (split_session value a views u) i ps ≡ false
    block_is_none u not = search (rules, has_is, owner_is, owned-false, and-false)

    pub view_is_owner : (u : Window) → is_inside (shape a) ps ≡ true → Own v (block_number (shape a) ps) → view_has (split_session value a views u) i ps ≡ true
    view_is_owner u inside own =
        has_is u ∙ and_from (ltb i (length views)) (is_inside (shape a) ps && owner) (lt-ltb i (length views) lt)
        (and_from (is_inside (shape a) ps) owner inside (owner_is (block_number (shape a) ps) ∙ owned-true v (block_number (shape a) ps) own))

    pub owner_owns : (u : Window) → view_has (split_session value a views u) i ps ≡ true → Own v (block_number (shape a) ps)
    owner_owns u has =
        let more = and_parts (ltb i (length views)) (is_inside (shape a) ps && owner) (sym (has_is u) ∙ has) in
        true-owned v (block_number (shape a) ps) (sym (owner_is (block_number (shape a) ps)) ∙ (and_parts (is_inside (shape a) ps) owner more.1).1)

    -- the view tells whether it owns the block
    pub owns_is : (u : Window) (t : Bool) (b : ℕ) → b ≡ block_number (shape a) ps → is_inside (shape a) ps ≡ true → (t ≡ true) ↔ Own v b → t ≡ view_has (split_session value a views u) i ps
    owns_is u true b e inside same = sym (view_is_owner u inside (subst (Own v) e (same.0 refl)))
    owns_is u false b e inside same = sym (block_is_none u (λ own. false≢true (same.1 (subst (Own v) (sym e) own))))

  -- what is told of one that has it
  pub has_inside : (u : Window) → view_has (split_session value a views u) i ps ≡ true → is_inside (shape a) ps ≡ true
  has_inside u has = search (rules, and_parts, has_is)

-- a number of a view that there is, or is not
pub has_view_is : {X : Type 0} (value : X → ℤ) (a : Held) (views : List (private.Held X)) (i : ℕ) (u : Window) → i < length views → has_view (split_session value a views u) i ≡ true
has_view_is value a views i u lt = ap (ltb i) (length-map views (view_of value a)) ∙ lt-ltb i (length views) lt

pub has_no_view : {X : Type 0} (value : X → ℤ) (a : Held) (views : List (private.Held X)) (i : ℕ) (u : Window) → length views ≤ i → has_view (split_session value a views u) i ≡ false
has_no_view value a views i u many = ap (ltb i) (length-map views (view_of value a)) ∙ le-ltb i (length views) many

-- the counts of a view
pub counts_are : {X : Type 0} (value : X → ℤ) (a : Held) (views : List (private.Held X)) (i : ℕ) (v : private.Held X) → i < length views → v ≡ get_or views i v → (view_at (views_seen value a views) i).counts ≡ v.cache.counts
unfolding state_at
counts_are value a views i v lt at = ap (λ (x : View). x.counts) (seen_at value a views i v lt at)

-- a view that there is is flushed
pub flushes_view : {Code : Type 0} (S : Setting Code) (s t : Session Code) (i : ℕ) → HasWindow s → refuses_split s (Command.pflush i) ≡ false → has_view s i ≡ true → (by_view S s i Act.flush).0 ≡ t
    → Does S (Command.pflush i) s t None
unfolding done by_view with_view answered
flushes_view S s t i lies there has acts =
    accepted S (Command.pflush i) s lies there refl (ap not has) refl t None refl (ap (λ x. (x, None)) acts) (subst HasWindow acts lies)
