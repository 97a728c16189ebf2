-- The lines of one split: what a view answers does not depend on the lines on other views.
use Rattle.std.proofs.Common.{◌≡◌, ◌≢◌, refl, sym, ap, subst, ◌∙◌, ◌⊎◌, inl, inr, ℕ, suc, ◌<◌, ℤ, Bool, true, false, not, ◌&&◌, cond, ltb, eqb, eq-eqb, ne_eqb, List, [], ◌∷◌, ◌++◌, map, length, set, Option, Some, None, is_some, arith, rules}
use Rattle.std.{specs.Int.{Width}, specs.List.{AllByRecursion, list_any, flat_map, filter}}
use Rattle.std.specs.Option.{option_map, option_to_list}
use Rattle.std.proofs.lemmas.Bool.{and_parts, not-false, ltb-true, cases_eq, cond-true, cond-false}
use Rattle.std.proofs.lemmas.List.{length-set, length-map, get_or-set_same, get_or-set_other}
use Rattle.zf_spec.{specs.Grid.{blocks, is_inside}, proofs.Counting.{length-upto, get_or-map-upto}}
use Rattle.zf_base.{specs.Formats.{Format}, specs.Places.{block_number, place_of}}
use Rattle.zf_cached.{specs.State.{State, is_block}, specs.Arrays.{array_format}, specs.Commands.{Command}}
use Rattle.zf_cached.{specs.Replies.{Refusal, Reply}, specs.Changes.{raised}, specs.Acts.{Act}}
use Rattle.zf_cached.{specs.Grammar.{line_of, read_line}, proofs.ReadLines.{read_line-None}}
use Rattle.zf_cached.specs.Views.{View, with_codes, without_codes, acted, answered, IsWithin, HasOwn, AreAlike}
use Rattle.zf_cached.specs.Splits.{is_view_count, is_owner, no_view, view_at, coded, opened_view, opened_views}
use Rattle.zf_cached.specs.Steps.{Setting, Session, format_of, is_split, views_of, state_of_view, with_view, by_view, at_position, split_into, needs_split, refuses_split, is_of_type, is_line_count, counts_reply, first_refusal, refusal, done, step}
use Rattle.zf_cached.{specs.Runs.{read_step, line_step, run_lines}, proofs.Sessions.{step_by}}
use Rattle.zf_cached.proofs.Parts.{one_owner}
use Rattle.zf_private.specs.Scripts.{Answered, answered_lines, view_named, named, is_accepted, is_on, is_elsewhere, without_others}
use Rattle.zf_private.proofs.Alike.{own-acted, stay-acted, alike-acted, alike-answered, alike-refl}
use Rattle.zf_private.proofs.Several.{alike-trans}

module _ {Code : Type 0} (setting : Setting Code) (ns : List ℕ) (n : ℕ) (some : 0 < n) where
  abbrev w : Width
  w = setting.width

  abbrev f : Format Code
  f = array_format setting.coding ns

  abbrev owns : ℕ → ℕ → Type 0
  owns j b = is_owner (blocks ns) n j b ≡ true

  -- a session of these sizes that is split into n views, each with blocks of its own alone in its lines
  pub record IsParted (s : Session Code) : Type 0 where
    shape : s.shape ≡ ns
    split : is_split s ≡ true
    many : length (views_of s) ≡ n
    own : (j : ℕ) → j < n → HasOwn (owns j) (state_of_view s j)

  -- an act of view j, as it is stated over these sizes
  by_view_is : (s : Session Code) (j : ℕ) (a : Act) → s.shape ≡ ns → by_view setting s j a
      ≡ (let t = acted w f (state_of_view s j) a in (record s { state = coded f s.state t.codes; split = Some (set (views_of s) j (without_codes t)) }, option_map Reply.number (answered t a)))
  unfolding by_view with_view
  by_view_is s j a same = search rules

  module _ (s : Session Code) (parted : IsParted s) (j : ℕ) (lt : j < n) (a : Act) (within : IsWithin (owns j) a) where
    abbrev t : State Code
    t = acted w f (state_of_view s j) a

    abbrev next : Session Code
    next = record s { state = coded f s.state t.codes; split = Some (set (views_of s) j (without_codes t)) }

    below : j < length (views_of s)
    below = omega (arith, lt, parted.many)

    -- the view of the act, and the others
    there : state_of_view next j ≡ t
    unfolding coded
    there = ap (λ v. with_codes v t.codes) (get_or-set_same (views_of s) j (without_codes t) no_view below)

    other : (m : ℕ) → (m ≡ j → ⊥) → view_at (views_of next) m ≡ view_at (views_of s) m
    other m ne = get_or-set_other (views_of s) j m (without_codes t) no_view ne

    parted-next : IsParted next
    unfolding coded
    parted-next = record {
      shape = parted.shape;
      split = refl;
      many = length-set (views_of s) j (without_codes t) ∙ parted.many;
      own = λ m below_n. elim (cases_eq m j) [
        | inl e ↦ subst (λ k. HasOwn (owns k) (state_of_view next k)) (sym e) (subst (HasOwn (owns j)) (sym there) (own-acted f (owns j) w (state_of_view s j) a within (parted.own j lt)))
        | inr ne ↦
            let own = parted.own m below_n in
            subst (λ (v : View). HasOwn (owns m) (with_codes v t.codes)) (sym (other m ne)) (record { held = own.held; dirty = own.dirty })
      ];
    }

    -- another view finds the same in its own blocks
    alike-other : (i : ℕ) → i ≢ j → AreAlike (owns i) (state_of_view next i) (state_of_view s i)
    unfolding coded
    alike-other i ne = record {
      lines = ap (λ (v : View). v.lines) (other i ne);
      held = ap (λ (v : View). v.held) (other i ne);
      dirty = ap (λ (v : View). v.dirty) (other i ne);
      counts = ap (λ (v : View). v.counts) (other i ne);
      values = λ b o. ap (λ (v : View). v.values b) (other i ne);
      codes = λ b o. stay-acted f (owns j) w (state_of_view s j) a b (parted.own j lt) (λ mine. one_owner (blocks ns) n some i j b ne o mine);
    }

  -- ---- refusals: those of the lines on views look at nothing but the sizes, the number of views and the width

  abbrev has : ℕ → List ℕ → Bool
  has j ps = ltb j n && (is_inside ns ps && is_owner (blocks ns) n j (block_number ns ps))

  refusal_of : Command → Option Refusal
  refusal_of (Command.pget j ps) = first_refusal false false (not (has j ps)) false false
  refusal_of (Command.pset j ps v) = first_refusal false false (not (has j ps)) (not (is_of_type w v)) false
  refusal_of (Command.padd j ps v) = first_refusal false false (not (has j ps)) (not (is_of_type w v)) false
  refusal_of (Command.pflush j) = first_refusal false false (not (ltb j n)) false false
  refusal_of (Command.pdiscard j) = first_refusal false false (not (ltb j n)) false false
  refusal_of (Command.pstats j) = first_refusal false false (not (ltb j n)) false false
  refusal_of c = Some Refusal.range

  refusal_is : (s : Session Code) → IsParted s → (c : Command) → is_some (view_named c) ≡ true → (starving : Bool) → refusal setting s c starving ≡ refusal_of c
  unfolding refusal refusal_of
  refusal_is s p (Command.pget j ps) e starving = search rules
  refusal_is s p (Command.pset j ps v) e starving = search rules
  refusal_is s p (Command.padd j ps v) e starving = search rules
  refusal_is s p (Command.pflush j) e starving = search rules
  refusal_is s p (Command.pdiscard j) e starving = search rules
  refusal_is s p (Command.pstats j) e starving = search rules
  refusal_is s p c e starving = absurd (cc)

  -- a command that needs no split is refused for it
  whole_refused : (s : Session Code) → IsParted s → (c : Command) → needs_split c ≡ false → (starving : Bool) → refusal setting s c starving ≡ Some Refusal.split
  unfolding refusal
  whole_refused s p c none starving = search rules

  -- what is not refused is on a view that there is, and on a block of its own
  within_flush : (j : ℕ) → first_refusal false false (not (ltb j n)) false false ≡ None → j < n
  within_flush j e = search (rules, ltb-true, not-false)

  within_at : (j : ℕ) (ps : List ℕ) (value : Bool) → first_refusal false false (not (has j ps)) value false ≡ None → (j < n) × (owns j (block_number ns ps))
  within_at j ps value e = search (rules, and_parts, not-false, ltb-true)

  -- ---- a line in two sessions

  module _ (i : ℕ) where
    -- the two are split alike, and view i finds the same in its own blocks
    pub record Together (s s' : Session Code) : Type 0 where
      one : IsParted s
      two : IsParted s'
      alike : i < n → AreAlike (owns i) (state_of_view s i) (state_of_view s' i)

    abbrev is_away : Option ℕ → Option Reply → Bool
    is_away v reply = is_accepted reply && (is_some v && not (is_block v i))

    -- the line answers the same in both
    record InBoth (r r' : Session Code × Option Reply) (v : Option ℕ) : Type 0 where
      together : Together r.0 r'.0
      replies : r'.1 ≡ r.1
      here : is_away v r.1 ≡ false

    -- it was accepted on another view, and the second session is what it was
    record InOne (r : Session Code × Option Reply) (s' : Session Code) (v : Option ℕ) : Type 0 where
      together : Together r.0 s'
      away : is_away v r.1 ≡ true

    abbrev Outcome : Session Code × Option Reply → Session Code × Option Reply → Session Code → Option ℕ → Type 0
    Outcome r r' s' v = InBoth r r' v ⊎ InOne r s' v

    -- both refuse it
    both_refuse : (s s' : Session Code) (why : Refusal) (v : Option ℕ) → Together s s' → Outcome (s, Some (Reply.refused why)) (s', Some (Reply.refused why)) s' v
    both_refuse s s' why v h = inl (record { together = h; replies = refl; here = refl })

    accepted_number : (o : Option ℤ) → is_accepted (option_map Reply.number o) ≡ true
    accepted_number None = refl
    accepted_number (Some x) = refl

    away_is : (j : ℕ) (reply : Option Reply) → is_accepted reply ≡ true → (j ≡ i → ⊥) → is_away (Some j) reply ≡ true
    away_is j reply accepted ne = ap (λ t. t && (true && not (eqb j i))) accepted ∙ ap not (ne_eqb j i ne)

    here_is : (j : ℕ) (reply : Option Reply) → j ≡ i → is_away (Some j) reply ≡ false
    here_is j reply e = search (rules, eq-eqb)

    module _ (s s' : Session Code) (h : Together s s') (j : ℕ) (lt : j < n) (a : Act) (within : IsWithin (owns j) a) where
      -- a session after the act, and its answer
      abbrev acts : (u : Session Code) → IsParted u → Session Code × Option Reply
      acts u parted = (next u parted j lt a within, option_map Reply.number (answered (t u parted j lt a within) a))

      -- an act of view i
      acts_both : j ≡ i → Outcome (acts s h.one) (acts s' h.two) s' (Some j)
      acts_both e =
          let alike : AreAlike (owns j) (state_of_view s j) (state_of_view s' j) = subst (λ m. m < n → AreAlike (owns m) (state_of_view s m) (state_of_view s' m)) (sym e) h.alike lt in
          let same = alike-acted f (owns j) w (state_of_view s j) (state_of_view s' j) a within (h.one.own j lt) alike in
          inl (record {
            together = record { one = parted-next s h.one j lt a within; two = parted-next s' h.two j lt a within; alike = λ below. search (rules, there) };
            replies = ap (option_map Reply.number) (sym (alike-answered f (owns j) (t s h.one j lt a within) (t s' h.two j lt a within) a within same));
            here = here_is j (acts s h.one).1 e;
          })

      -- one of another view
      acts_one : (j ≡ i → ⊥) → Outcome (acts s h.one) (acts s' h.two) s' (Some j)
      acts_one ne =
          let alike = λ (below : i < n). alike-trans (owns i) (alike-other s h.one j lt a within i (λ e. ne (sym e))) (h.alike below) in
          inr (search (rules, parted-next, away_is, accepted_number))

      acts_either : Outcome (by_view setting s j a) (by_view setting s' j a) s' (Some j)
      acts_either = search (rules, by_view_is, acts_both, acts_one, cases_eq)

    -- the counts of a view
    counts_either : (s s' : Session Code) → Together s s' → (j : ℕ) → j < n
        → Outcome (s, Some (counts_reply (view_at (views_of s) j).counts)) (s', Some (counts_reply (view_at (views_of s') j).counts)) s' (Some j)
    counts_either s s' h j lt = search (rules, cases_eq, here_is, away_is)

    -- an act at a position
    at_positions : (s s' : Session Code) → Together s s' → (j : ℕ) (act : ℕ → ℕ → Act) (ps : List ℕ) → j < n → (owns j (block_number ns ps) → IsWithin (owns j) (act (block_number ns ps) (place_of ps))) → owns j (block_number ns ps)
        → Outcome (by_view setting s j (at_position s act ps)) (by_view setting s' j (at_position s' act ps)) s' (Some j)
    at_positions s s' h j act ps lt within own = search (rules, acts_either)

    -- a command that is refused in both, or is done in both
    module _ (s s' : Session Code) (h : Together s s') (c : Command) (x y : Bool) where
      by_refusal : (r : Option Refusal) → refusal setting s c x ≡ r → refusal setting s' c y ≡ r → (r ≡ None → Outcome (done setting s c) (done setting s' c) s' (view_named c)) → Outcome (step setting s c x) (step setting s' c y) s' (view_named c)
      by_refusal (Some why) e e' does =
          step_by setting s c x (λ r. Outcome r (step setting s' c y) s' (view_named c))
          (λ u is. let same : u ≡ why = cc in step_by setting s' c y (λ r. Outcome (s, Some (Reply.refused u)) r s' (view_named c))
          (λ v is'. let same' : v ≡ u = cc in subst (λ z. Outcome (s, Some (Reply.refused u)) (s', Some (Reply.refused z)) s' (view_named c)) (sym same') (both_refuse s s' u (view_named c) h)) (λ none. absurd (cc)))
          (λ none. absurd (cc))
      by_refusal None e e' does =
          step_by setting s c x (λ r. Outcome r (step setting s' c y) s' (view_named c)) (λ u is. absurd (cc))
          (λ none. step_by setting s' c y (λ r. Outcome (done setting s c) r s' (view_named c)) (λ v is'. absurd (cc)) (λ none'. does refl))

    stepped : (s s' : Session Code) → Together s s' → (c : Command) (x y : Bool) → c ≢ Command.join → Outcome (step setting s c x) (step setting s' c y) s' (view_named c)
    unfolding done refusal_of
    stepped s s' h (Command.pget j ps) x y other =
        by_refusal s s' h (Command.pget j ps) x y (refusal_of (Command.pget j ps)) (refusal_is s h.one (Command.pget j ps) refl x) (refusal_is s' h.two (Command.pget j ps) refl y)
        (λ none. let ok = within_at j ps false none in at_positions s s' h j (λ b p. Act.get b p) ps ok.0 (λ e. e) ok.1)
    stepped s s' h (Command.pset j ps v) x y other =
        by_refusal s s' h (Command.pset j ps v) x y (refusal_of (Command.pset j ps v)) (refusal_is s h.one (Command.pset j ps v) refl x) (refusal_is s' h.two (Command.pset j ps v) refl y)
        (λ none. let ok = within_at j ps (not (is_of_type w v)) none in at_positions s s' h j (λ b p. Act.set b p v) ps ok.0 (λ e. e) ok.1)
    stepped s s' h (Command.padd j ps v) x y other =
        by_refusal s s' h (Command.padd j ps v) x y (refusal_of (Command.padd j ps v)) (refusal_is s h.one (Command.padd j ps v) refl x) (refusal_is s' h.two (Command.padd j ps v) refl y)
        (λ none. let ok = within_at j ps (not (is_of_type w v)) none in at_positions s s' h j (λ b p. Act.add b p v) ps ok.0 (λ e. e) ok.1)
    stepped s s' h (Command.pflush j) x y other = search (rules, by_refusal, refusal_of, refusal_is, acts_either, within_flush)
    stepped s s' h (Command.pdiscard j) x y other = search (rules, by_refusal, refusal_of, refusal_is, acts_either, within_flush)
    stepped s s' h (Command.pstats j) x y other = search (rules, by_refusal, refusal_of, refusal_is, counts_either, within_flush)
    stepped s s' h Command.join x y other = absurd (other refl)
    stepped s s' h c x y other =
        by_refusal s s' h c x y (Some Refusal.split) (whole_refused s h.one c refl x) (whole_refused s' h.two c refl y) (λ none. absurd (cc))

    -- ---- lines

    abbrev d : ℕ
    d = length ns

    read_stepped : (s s' : Session Code) → Together s s' → (o : Option Command) (x y : Bool) → o ≢ Some Command.join → Outcome (read_step setting s o x) (read_step setting s' o y) s' (named o)
    unfolding read_step
    read_stepped s s' h None x y other = both_refuse s s' Refusal.word None h
    read_stepped s s' h (Some c) x y other = search (rules, stepped, other, both_refuse)

    empty_text : (c : Command) → [] ≡ line_of c → ⊥
    empty_text (Command.get ps) e = omega (arith, ap length e)
    empty_text c e = omega (arith, ap length e)

    no_line : read_line d [] ≡ None
    no_line = read_line-None d [] (λ c ok e. empty_text c e)

    line_stepped : (s s' : Session Code) → Together s s' → (line : List ℕ) (x y : Bool) → read_line d line ≢ Some Command.join → Outcome (line_step setting s line x) (line_step setting s' line y) s' (named (read_line d line))
    unfolding line_step
    line_stepped s s' h [] x y other = inl (record { together = h; replies = refl; here = ap (λ o. is_away (named o) None) no_line })
    line_stepped s s' h (b ∷ bs) x y other = search (rules, read_stepped, other)

    on_not_away : (v : Option ℕ) (reply : Option Reply) → is_away v reply ≡ true → (is_accepted reply && is_block v i) ≡ false
    on_not_away v reply e = search rules

    pub alone : (starved others : List ℕ) (k m : ℕ) (lines : List (List ℕ)) (s s' : Session Code) → Together s s' → AllByRecursion (λ (line : List ℕ). read_line d line ≢ Some Command.join) lines
        → filter (is_on d i) (answered_lines setting others m (without_others d i (answered_lines setting starved k lines s)) s') ≡ filter (is_on d i) (answered_lines setting starved k lines s)
    unfolding answered_lines
    alone starved others k m [] s s' h none = refl
    alone starved others k m (line ∷ lines) s s' h none =
        let x = list_any (λ (p : ℕ). eqb p k) starved in let y = list_any (λ (p : ℕ). eqb p m) others in
        let one = line_step setting s line x in let two = line_step setting s' line y in
        let xs = answered_lines setting starved (suc k) lines one.0 in let keeps = λ (q : Answered). not (is_elsewhere d i q) in
        elim (line_stepped s s' h line x y none.0) [
          | inl both ↦
              let left : without_others d i ((line, one.1) ∷ xs) ≡ line ∷ without_others d i xs = ap (map (λ (q : Answered). q.0)) (cond-true (keeps (line, one.1)) ((line, one.1) ∷ filter keeps xs) (filter keeps xs) (ap not both.here)) in
              let rest = alone starved others (suc k) (suc m) lines one.0 two.0 both.together none.1 in
              ap (λ ls. filter (is_on d i) (answered_lines setting others m ls s')) left
              ∙ (λ p. cond (is_on d i (line, both.replies p)) ((line, both.replies p) ∷ rest p) (rest p))
          | inr away ↦
              let left : without_others d i ((line, one.1) ∷ xs) ≡ without_others d i xs = ap (map (λ (q : Answered). q.0)) (cond-false (keeps (line, one.1)) ((line, one.1) ∷ filter keeps xs) (filter keeps xs) (ap not away.away)) in
              ap (λ ls. filter (is_on d i) (answered_lines setting others m ls s')) left ∙ alone starved others (suc k) m lines one.0 s' away.together none.1
              ∙ sym (cond-false (is_on d i (line, one.1)) ((line, one.1) ∷ filter (is_on d i) xs) (filter (is_on d i) xs) (on_not_away (named (read_line d line)) one.1 away.away))
        ]

-- ---- from a split on

module _ {Code : Type 0} (setting : Setting Code) (start : Session Code) (n lines : ℕ) (taken : refusal setting start (Command.split n lines) false ≡ None) where
  size_false : (p a b v m : Bool) → first_refusal p a b v m ≡ None → a ≡ false
  size_false false false b v m e = refl
  size_false x a b v m e = absurd (cc)

  counted : is_view_count (format_of setting start).blocks n && is_line_count lines ≡ true
  unfolding refusal
  counted = not-false (is_view_count (format_of setting start).blocks n && is_line_count lines) (size_false (refuses_split start (Command.split n lines)) (not (is_view_count (format_of setting start).blocks n && is_line_count lines)) false false false taken)

  pub some_views : 0 < n
  some_views = search (rules, and_parts, counted, ltb-true)

  nothing : (f : Format Code) (codes : ℕ → Code) (j : ℕ) → HasOwn (λ b. is_owner (blocks start.shape) n j b ≡ true) (with_codes (opened_view f codes (raised lines) (is_owner (blocks start.shape) n j)) codes)
  unfolding opened_view
  nothing f codes j = record { held = λ l b e. absurd (cc); dirty = λ b e. absurd (cc) }

  opened : IsParted setting start.shape n some_views (split_into setting start n (raised lines))
  unfolding split_into opened_views array_format
  opened = search (rules, length-map, length-upto, get_or-map-upto, nothing)

  pub begins : (i : ℕ) → Together setting start.shape n some_views i (step setting start (Command.split n lines) false).0 (step setting start (Command.split n lines) false).0
  unfolding done
  begins i = step_by setting start (Command.split n lines) false (λ r. Together setting start.shape n some_views i r.0 r.0) (λ why e. absurd (cc))
      (λ none. record { one = opened; two = opened; alike = λ below. alike-refl (array_format setting.coding start.shape) _ _ })

-- the replies of lines
pub replies_are : {Code : Type 0} (setting : Setting Code) (starved : List ℕ) (k : ℕ) (lines : List (List ℕ)) (s : Session Code) → (run_lines setting starved k lines s).1 ≡ flat_map (λ (x : Answered). option_to_list x.1) (answered_lines setting starved k lines s)
unfolding run_lines answered_lines
replies_are setting starved k [] s = refl
replies_are setting starved k (line ∷ lines) s =
    let one = line_step setting s line (list_any (λ n. eqb n k) starved) in
    ap (λ rs. option_to_list one.1 ++ rs) (replies_are setting starved (suc k) lines one.0)
