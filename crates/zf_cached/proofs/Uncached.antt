-- A script over a cache with as many lines as there are blocks answers as over a plain array.
use Rattle.std.proofs.Common.{◌≡◌, refl, sym, ap, subst, ◌∙◌, ℕ, suc, ◌<◌, ◌≤◌, ℤ, pos, ◌+ℤ◌, Bool, true, false, ◌&&◌, eqb, List, [], ◌∷◌, ◌++◌, map, length, get_or, set, replicate, Option, Some, None, arith}
use Rattle.std.{specs.Prelude.{All}, specs.List.{list_any}, specs.Option.{option_map, option_to_list}}
use Rattle.std.proofs.{lemmas.Bool.{not-false}, lemmas.List.{map-append}, Math.Nat.{mod-eq_of_lt}}
use Rattle.std.proofs.lemmas.List.Elements.{All-head, All-tail, All-map, All-from_get_or}
use Rattle.zf_spec.{specs.Grid.{IsShape, upto, product, blocks, coordinates, is_inside}, proofs.Counting.{length-upto, get_or-upto}}
use Rattle.zf_spec.proofs.Raster.{length-coordinates}
use Rattle.zf_base.{specs.Formats.{Format, with_at, existing_of}, specs.Places.{block_number, place_of}}
use Rattle.zf_base.proofs.{Places.{IsAt-position}, Boxes.{is_inside-coordinates}}
use Rattle.zf_spec.specs.Numbers.{wrap}
use Rattle.zf_cached.{specs.State.{State}, specs.Touch.{write_back_line, hit, miss, touch_at, soiled, with_values}}
use Rattle.zf_cached.{specs.Changes.{opened}, specs.Placing.{Line, IsPlacing, direct, line_in, is_at}, specs.Arrays.{array_format}}
use Rattle.zf_cached.{specs.Windows.{LiesIn, mapped, positions}, specs.Commands.{Command}, specs.Kinds.{kind_of}}
use Rattle.zf_cached.{specs.Replies.{Refusal, Reply}, specs.Grammar.{read_line, is_writable}}
use Rattle.zf_cached.specs.Steps.{Setting, Session, format_of, touched, changed, changed_at, filled_below, summed, value_there, tests, refuses_split, refusal, done, step}
use Rattle.zf_cached.{specs.Runs.{lines_of, read_step, line_step, run_lines, run_script}, specs.Consistency.{every, IsCached, IsSound}}
use Rattle.zf_cached.specs.Uncached.{uncached, but_counts, is_on_values, IsOnValues, AreOnValues, HasOwnLines, HasEnoughLines, KeepsBlocks, ShowTheSame, opened_session}
use Rattle.zf_cached.proofs.Caching.{at_change, write_back_line_by, is_block-false, touch_by}
use Rattle.zf_cached.proofs.{Windows.{mapped_inside, length-mapped, LiesIn-whole}, ReadLines.{read_line-Some}}
use Rattle.zf_cached.proofs.Sessions.{IsTaken, as_many, as_many_of, refusal_none, step_by}
use Rattle.zf_cached.proofs.{Placed.{opened-consistent}, Runs.{step-refused, line_step-sound}}

pub direct-own : HasOwnLines direct
direct-own n held dirty b lt = mod-eq_of_lt lt

-- ---- states

pub opened-enough : {Code : Type 0} (format : Format Code) (codes : ℕ → Code) (lines : ℕ) → format.blocks ≤ lines → HasEnoughLines format (opened format codes lines)
unfolding opened
opened-enough format codes lines le = record { enough = le; own = λ l b e. absurd (cc) }

module _ (line : Line) (own : HasOwnLines line) where
  module _ {Code : Type 0} (format : Format Code) (s : State Code) (h : HasEnoughLines format s) (b : ℕ) (below : b < format.blocks) where
    its_line : line_in line s b ≡ b
    its_line = own s.lines s.held s.dirty b (omega (arith, below, h.enough))

    -- what is not here is in no one's way
    nothing_there : is_at line s b ≡ false → (a : ℕ) → s.held (line_in line s b) ≡ Some a → ⊥
    nothing_there away a is = is_block-false (s.held (line_in line s b)) b away (is ∙ ap Some (h.own (line_in line s b) a is ∙ its_line))

    stays : is_at line s b ≡ false → write_back_line format s (line_in line s b) ≡ s
    stays away = write_back_line_by format s (line_in line s b) (λ t. t ≡ s) (λ a is dirty. absurd (nothing_there away a is)) (λ a is clean. refl) (λ none. refl)

    pub touch-keeps : KeepsBlocks format s (touch_at line format s b)
    unfolding hit miss
    touch-keeps = touch_by line format s b (KeepsBlocks format s)
        (λ here. record { values = refl; codes = refl; dirty = refl; enough = record { enough = h.enough; own = h.own } })
        (λ away. let e = stays away in let l = line_in line s b in record {
          values = ap (λ (u : State Code). u.values) e;
          codes = ap (λ (u : State Code). u.codes) e;
          dirty = ap (λ (u : State Code). u.dirty) e;
          enough = record {
            enough = subst (λ (u : State Code). format.blocks ≤ u.lines) (sym e) h.enough;
            own = λ m. at_change (λ n o. (a : ℕ) → o ≡ Some a → a ≡ n) (write_back_line format s l).held l (Some b) m
                (λ a is. let same : a ≡ b = cc in same ∙ sym its_line)
                (λ ne. subst (λ (u : State Code). (a : ℕ) → u.held m ≡ Some a → a ≡ m) (sym e) (h.own m));
          };
        })

  -- ---- sessions

  module _ {Code : Type 0} (setting : Setting Code) (cached : IsCached line setting) where
    -- the same over a plain array, and over these values
    abbrev beside : Session Code → State Code → Session Code
    beside x u = record x { state = u }

    -- a session of a cache, and one of a plain array beside it
    pub record Beside (x y : Session Code) : Type 0 where
      pub rest : y ≡ beside x y.state
      pub values : y.state.values ≡ x.state.values
      pub enough : HasEnoughLines (format_of setting x) x.state

    -- and their replies, if any
    pub record Answer (r q : Session Code × Option Reply) : Type 0 where
      pub sessions : Beside r.0 q.0
      pub replies : option_map but_counts r.1 ≡ option_map but_counts q.1

    abbrev IsBlock : Session Code → ℕ → Type 0
    IsBlock x b = b < (format_of setting x).blocks

    module _ (x : Session Code) (h : HasEnoughLines (format_of setting x) x.state) (b : ℕ) (below : IsBlock x b) where
      touched-keeps : KeepsBlocks (format_of setting x) x.state (touched setting x b).state
      unfolding touched
      touched-keeps = subst (λ f. KeepsBlocks (format_of setting x) x.state (f (format_of setting x) x.state b)) (sym cached.touches) (touch-keeps (format_of setting x) x.state h b below)

      touched-beside : (u : State Code) → u.values ≡ x.state.values → Beside (touched setting x b) (touched (uncached setting) (beside x u) b)
      unfolding touched
      touched-beside u same = record { rest = refl; values = same ∙ sym touched-keeps.values; enough = touched-keeps.enough }

      changed-beside : (u : State Code) → u.values ≡ x.state.values → (change : List ℤ → List ℤ) → Beside (changed setting x b change) (changed (uncached setting) (beside x u) b change)
      unfolding touched changed soiled with_values
      changed-beside u same change = let k = touched-keeps in record {
        rest = refl;
        values = ap (λ (vs : ℕ → List ℤ). with_at vs b (change (vs b))) (same ∙ sym k.values);
        enough = record { enough = k.enough.enough; own = k.enough.own };
      }

    filled-beside : (v : ℤ) (bs : List ℕ) (x : Session Code) (u : State Code) → HasEnoughLines (format_of setting x) x.state → u.values ≡ x.state.values → All (IsBlock x) bs
        → Beside (filled_below setting x v bs) (filled_below (uncached setting) (beside x u) v bs)
    unfolding filled_below changed
    filled-beside v [] x u h same all = record { rest = refl; values = same; enough = h }
    filled-beside v (b ∷ bs) x u h same all =
        let change : List ℤ → List ℤ = λ values. existing_of (format_of setting x) b (replicate (format_of setting x).block_len v) in
        let k = changed-beside x h b (All-head (IsBlock x) b bs all) u same change in
        filled-beside v bs (changed setting x b change) (changed (uncached setting) (beside x u) b change).state k.enough k.values (All-tail (IsBlock x) b bs all)

    pub record Totals (r q : Session Code × ℤ) : Type 0 where
      pub sessions : Beside r.0 q.0
      pub total : r.1 ≡ q.1

    summed-beside : {X : Type 0} (block : X → ℕ) (found : X → List ℤ → ℤ) (ys : List X) (x : Session Code) (u : State Code) → HasEnoughLines (format_of setting x) x.state → u.values ≡ x.state.values → All (λ a. IsBlock x (block a)) ys
        → Totals (summed setting block found ys x) (summed (uncached setting) block found ys (beside x u))
    unfolding summed touched
    summed-beside block found [] x u h same all = record { sessions = record { rest = refl; values = same; enough = h }; total = refl }
    summed-beside block found (a ∷ ys) x u h same all =
        let t = touched setting x (block a) in
        let k = touched-beside x h (block a) (All-head (λ a. IsBlock x (block a)) a ys all) u same in
        let more = summed-beside block found ys t u k.enough k.values (All-tail (λ a. IsBlock x (block a)) a ys all) in
        record { sessions = more.sessions; total = (λ i. found a (sym k.values i (block a)) +ℤ more.total i) }

    -- positions of the array, and of its window, are in its blocks
    inside_block : (x : Session Code) (ps : List ℕ) → length ps ≡ length x.shape → is_inside x.shape ps ≡ true → IsBlock x (block_number x.shape ps)
    unfolding array_format
    inside_block x ps same inside = (IsAt-position x.shape ps same inside).block_in_array

    mapped_block : (x : Session Code) (ps : List ℕ) → LiesIn x.shape x.window → length ps ≡ length x.window.size → is_inside x.window.size ps ≡ true → IsBlock x (block_number x.shape (mapped x.window ps))
    mapped_block x ps lies same inside = inside_block x (mapped x.window ps) (length-mapped x.shape x.window ps lies same) (mapped_inside x.shape x.window lies ps inside same)

    all_blocks : (x : Session Code) → All (IsBlock x) (upto (format_of setting x).blocks)
    all_blocks x =
        let n = (format_of setting x).blocks in
        All-from_get_or (IsBlock x) (upto n) 0 (λ i lt. let small : i < n = omega (arith, lt, length-upto n) in subst (IsBlock x) (sym (get_or-upto n i 0 small)) small)

    all_positions : (x : Session Code) → LiesIn x.shape x.window → All (λ ps. IsBlock x (block_number x.shape ps)) (positions x.window)
    all_positions x lies =
        let w = x.window in let n = product w.size in
        All-map (λ ps. IsBlock x (block_number x.shape ps)) (λ k. mapped w (coordinates w.size k)) (upto n)
        (All-from_get_or (λ k. IsBlock x (block_number x.shape (mapped w (coordinates w.size k)))) (upto n) 0
        (λ i lt. let small : get_or (upto n) i 0 < n = omega (arith, lt, length-upto n, get_or-upto n i 0) in
        mapped_block x _ lies (length-coordinates w.size _) (is_inside-coordinates w.size _ small)))

    -- ---- commands

    module _ (x : Session Code) (u : State Code) (h : HasEnoughLines (format_of setting x) x.state) (same : u.values ≡ x.state.values) where
      abbrev y : Session Code
      y = beside x u

      stay : Beside x y
      stay = record { rest = refl; values = same; enough = h }

      same_refusal : (c : Command) (starving : Bool) → refusal (uncached setting) y c starving ≡ refusal setting x c starving
      unfolding refusal
      same_refusal c starving = refl

      number_beside : (b : ℕ) → IsBlock x b → (found : List ℤ → ℤ) → Answer (let t = touched setting x b in (t, Some (Reply.number (found (t.state.values b))))) (let t = touched (uncached setting) y b in (t, Some (Reply.number (found (t.state.values b)))))
      number_beside b below found = let k = touched-beside x h b below u same in record { sessions = k; replies = (λ i. Some (Reply.number (found (sym k.values i b)))) }

      unanswered : (z w : Session Code) → Beside z w → Answer (z, None) (w, None)
      unanswered z w k = record { sessions = k; replies = refl }

      total_beside : (r q : Session Code × ℤ) → Totals r q → Answer (r.0, Some (Reply.number r.1)) (q.0, Some (Reply.number q.1))
      total_beside r q k = record { sessions = k.sessions; replies = (λ i. Some (Reply.number (k.total i))) }

      changed_at-beside : (ps : List ℕ) (change : ℤ → ℤ) → IsBlock x (block_number x.shape ps) → Answer (changed_at setting x ps change, None) (changed_at (uncached setting) y ps change, None)
      unfolding changed_at
      changed_at-beside ps change below =
          unanswered _ _ (changed-beside x h (block_number x.shape ps) below u same (λ values. set values (place_of ps) (change (get_or values (place_of ps) (pos 0)))))

      done-beside : (c : Command) → IsTaken setting x c → LiesIn x.shape x.window → is_on_values (kind_of c) ≡ true → Answer (done setting x c) (done (uncached setting) y c)
      unfolding done
      done-beside (Command.get ps) t lies on = number_beside (block_number x.shape ps) (inside_block x ps (as_many (length x.shape) ps t.writable) (not-false (is_inside x.shape ps) t.range)) (value_there ps)
      done-beside (Command.set ps v) t lies on =
          changed_at-beside ps (λ old. v) (inside_block x ps (as_many_of (length x.shape) ps v t.writable) (not-false (is_inside x.shape ps) t.range))
      done-beside (Command.add ps v) t lies on =
          changed_at-beside ps (λ old. wrap setting.width (old +ℤ v)) (inside_block x ps (as_many_of (length x.shape) ps v t.writable) (not-false (is_inside x.shape ps) t.range))
      done-beside (Command.fill v) t lies on = unanswered _ _ (filled-beside v (upto (format_of setting x).blocks) x u h same (all_blocks x))
      done-beside Command.sum t lies on = total_beside _ _ (summed-beside (λ b. b) _ (upto (format_of setting x).blocks) x u h same (all_blocks x))
      done-beside (Command.view origin size step) t lies on = unanswered _ _ (record { rest = refl; values = same; enough = h })
      done-beside (Command.slice axis at) t lies on = unanswered _ _ (record { rest = refl; values = same; enough = h })
      done-beside (Command.vget ps) t lies on =
          let at = mapped x.window ps in
          number_beside (block_number x.shape at) (mapped_block x ps lies (as_many (length x.shape) ps t.writable ∙ sym lies.sizes) (not-false (is_inside x.window.size ps) t.range)) (value_there at)
      done-beside (Command.vset ps v) t lies on =
          changed_at-beside (mapped x.window ps) (λ old. v) (mapped_block x ps lies (as_many_of (length x.shape) ps v t.writable ∙ sym lies.sizes) (not-false (is_inside x.window.size ps) t.range))
      done-beside Command.vsum t lies on = total_beside _ _ (summed-beside (block_number x.shape) value_there (positions x.window) x u h same (all_positions x lies))
      done-beside Command.stats t lies on = record { sessions = stay; replies = refl }
      done-beside c t lies on = absurd (cc)

      -- ---- lines

      taken : (c : Command) (starving : Bool) → is_writable (length x.shape) c ≡ true → refusal setting x c starving ≡ None → IsTaken setting x c
      unfolding refusal
      taken c starving writable none =
          let t = tests setting x c in let parts = refusal_none (refuses_split x c) t.size t.range t.value (t.memory && starving) none in
          record { writable = writable; split = parts.0; size = parts.1; range = parts.2 }

      step-beside : (c : Command) (starving : Bool) → is_writable (length x.shape) c ≡ true → LiesIn x.shape x.window → (refusal setting x c starving ≡ None → is_on_values (kind_of c) ≡ true)
          → Answer (step setting x c starving) (step (uncached setting) y c starving)
      step-beside c starving writable lies on =
          step_by setting x c starving (λ r. Answer r (step (uncached setting) y c starving))
          (λ why e. subst (Answer (x, Some (Reply.refused why))) (sym (step-refused (uncached setting) y c starving why (same_refusal c starving ∙ e))) (record { sessions = stay; replies = refl }))
          (λ none. step_by (uncached setting) y c starving (Answer (done setting x c)) (λ why e. absurd (cc (same_refusal c starving)))
          (λ e. done-beside c (taken c starving writable none) lies (on none)))

      line-beside : (text : List ℕ) (starving : Bool) → LiesIn x.shape x.window → IsOnValues setting x text starving → Answer (line_step setting x text starving) (line_step (uncached setting) y text starving)
      unfolding line_step read_step
      line-beside [] starving lies on = record { sessions = stay; replies = refl }
      line-beside (b ∷ bs) starving lies on = by (read_line (length x.shape) (b ∷ bs)) refl
        where
          by : (o : Option Command) → read_line (length x.shape) (b ∷ bs) ≡ o → Answer (read_step setting x o starving) (read_step (uncached setting) y o starving)
          by None e = record { sessions = stay; replies = refl }
          by (Some c) e = allowed (setting.allows c) refl
            where
              allowed : (t : Bool) → setting.allows c ≡ t
                  → Answer (elim t as (λ z. Session Code × Option Reply) [ true ↦ step setting x c starving | false ↦ (x, Some (Reply.refused Refusal.word)) ])
                  (elim t as (λ z. Session Code × Option Reply) [ true ↦ step (uncached setting) y c starving | false ↦ (y, Some (Reply.refused Refusal.word)) ])
              allowed true may = step-beside c starving (read_line-Some (length x.shape) (b ∷ bs) c e).0 lies (on c e may)
              allowed false may = record { sessions = stay; replies = refl }

  -- ---- scripts

  -- a reply, or none, as a list
  listed : (a : Option Reply) → map but_counts (option_to_list a) ≡ option_to_list (option_map but_counts a)
  listed None = refl
  listed (Some r) = refl

  module _ (may_hold : ℕ → ℕ → ℕ → Type 0) (placing : IsPlacing line may_hold) {Code : Type 0} (setting : Setting Code) (cached : IsCached line setting) (starved : List ℕ) where
    pub run-beside : (k : ℕ) (lines : List (List ℕ)) (x : Session Code) (y : Session Code) → IsSound line setting x → Beside setting cached x y → AreOnValues setting starved k lines x
        → (map but_counts (run_lines setting starved k lines x).1 ≡ map but_counts (run_lines (uncached setting) starved k lines y).1) × Beside setting cached (run_lines setting starved k lines x).0 (run_lines (uncached setting) starved k lines y).0
    unfolding run_lines AreOnValues
    run-beside k [] x y sound h on = (refl, h)
    run-beside k (text ∷ lines) x y sound h on =
        let starving = list_any (λ n. eqb n k) starved in
        let one = line_step setting x text starving in let two = line_step (uncached setting) y text starving in
        let now : Answer setting cached one two = subst (λ z. Answer setting cached one (line_step (uncached setting) z text starving)) (sym h.rest) (line-beside setting cached x y.state h.enough h.values text starving sound.window on.0) in
        let more = run-beside (suc k) lines one.0 two.0 (line_step-sound line may_hold placing setting x text starving cached sound) now.sessions on.1 in
        let first : map but_counts (option_to_list one.1) ≡ map but_counts (option_to_list two.1) = listed one.1 ∙ ap option_to_list now.replies ∙ sym (listed two.1) in (
          map-append but_counts (option_to_list one.1) (run_lines setting starved (suc k) lines one.0).1 ∙ (λ i. first i ++ more.0 i) ∙ sym (map-append but_counts (option_to_list two.1) (run_lines (uncached setting) starved (suc k) lines two.0).1),
          more.1,
        )

    -- the replies are those of a plain array, and so are the values afterwards
    pub lines-beside : (k : ℕ) (lines : List (List ℕ)) (s : Session Code) → IsSound line setting s → HasEnoughLines (format_of setting s) s.state → AreOnValues setting starved k lines s
        → (let r = run_lines setting starved k lines s in let p = run_lines (uncached setting) starved k lines s in (map but_counts r.1 ≡ map but_counts p.1) × ShowTheSame r.0 p.0)
    lines-beside k lines s sound enough on =
        let h = run-beside k lines s s sound (record { rest = refl; values = refl; enough = enough }) on in
        (h.0, record { shape = ap (λ (z : Session Code). z.shape) h.1.rest; window = ap (λ (z : Session Code). z.window) h.1.rest; values = h.1.values })

    -- so are those of a script over an array that was opened
    pub script-beside : (shape : List ℕ) (codes : ℕ → Code) (lines : ℕ) (script : List ℕ) → IsShape shape → 1 ≤ lines → blocks shape ≤ lines
        → (let start = opened_session setting shape codes lines in AreOnValues setting starved 0 (lines_of script) start
        → let r = run_script setting starved shape start.state script in let p = run_script (uncached setting) starved shape start.state script in (map but_counts r.1 ≡ map but_counts p.1) × ShowTheSame r.0 p.0)
    unfolding run_script array_format
    script-beside shape codes lines script is some le on =
        let start = opened_session setting shape codes lines in
        let state = opened-consistent line may_hold placing every (array_format setting.coding shape) codes lines some in
        let sound : IsSound line setting start = record { shape = is; state = state; window = LiesIn-whole shape is.not_zero; split = λ e. absurd (cc); views = λ i lt. absurd (omega (arith, lt)) } in
        lines-beside 0 (lines_of script) start sound (opened-enough (format_of setting start) codes lines le) on
