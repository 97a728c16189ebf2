-- Each command that is not refused, and the refusals of each.
use Rattle.std.proofs.Common.{◌≡◌, refl, sym, ap, subst, ◌∙◌, ℕ, ◌<◌, ◌≤◌, ℤ, ◌+ℤ◌, Bool, true, false, not, ltb, lt-ltb, ltb-true, ◌⊎◌, inl, inr, List, length, Option, Some, None, arith, rules}
use Rattle.std.{proofs.lemmas.Bool.{and_from, and_parts}, specs.Int.{Width}}
use Rattle.zf_spec.{specs.Numbers.{wrap}, specs.Grid.{IsShape, is_inside, upto, blocks}}
use Rattle.zf_base.{specs.declared.position.Pos.{Pos}, specs.Positions.{used_axes, with_unused, IsPosition}}
use Rattle.zf_base.{specs.Places.{block_number}, proofs.Extents.{length-used_axes, used_axes-with_unused}}
use Rattle.zf_cached.{specs.Commands.{Command}, specs.Replies.{Refusal, Reply}, specs.Arrays.{array_format}}
use Rattle.zf_cached.{specs.Runs.{read_step}, specs.State.{Counts}}
use Rattle.zf_cached.specs.Windows.{Window, LiesIn, mapped, sliced, has_place, positions, is_window}
use Rattle.zf_cached.specs.Steps.{Setting, Session, touched, changed, changed_at, filled_below, total, value_there, is_of_type, is_line_count, needs_split, tests, step, done}
use Rattle.zf_cached.proofs.Windows.{length-mapped, LiesIn-sliced}
use Rattle.zf_window.{specs.declared.window.ViewFault.{ViewFault}, specs.WindowFields.{view_fault}}
use Rattle.zf_script.specs.declared.command.Cmd.{Cmd}
use Rattle.zf_commands.{specs.declared.subject.Subject.{Ghosts as Subject}, specs.Kinds.{asked}}
use Rattle.zf_commands.{specs.Calls.{IsReady, Leads, Obeys}, specs.Sittings.{place_in, block_in}}
use Rattle.zf_commands.specs.Steps.{Does, HasWindow, Takes, Touches, Changes, FillsAll, Sums, Performs, starves}
use Rattle.zf_commands.proofs.Stepping.{no_split, refused_size, refused_range, refused_value, refused_memory, accepted}

-- ---- tests

pub is_not : (t : Bool) → (t ≡ true → ⊥) → not t ≡ true
is_not _ h = search rules

-- a position outside
pub outside : (ns : List ℕ) (p : Pos) → p ≡ with_unused 0 (used_axes (length ns) p) → (IsPosition ns p → ⊥) → not (is_inside ns (used_axes (length ns) p)) ≡ true
outside ns p unused away = is_not (is_inside ns (used_axes (length ns) p)) (λ e. away (record { inside = e; unused = unused }))

pub no_window : (ns : List ℕ) (w : Window) (e : ViewFault) → view_fault ns w ≡ Some e → not (is_window ns w) ≡ true
no_window ns w e is = search rules

pub line_count : (n : ℕ) → (n ≡ 0 → ⊥) → n ≤ 65536 → is_line_count n ≡ true
line_count n some most = search (rules, and_from, lt-ltb)

pub no_line_count : (n : ℕ) → (n ≡ 0) ⊎ ((n ≡ 0 → ⊥) × (65536 < n)) → not (is_line_count n) ≡ true
no_line_count n (inl none) = is_not (is_line_count n) (λ e. let parts = and_parts (ltb 0 n) (ltb n 65537) e in omega (arith, none, ltb-true 0 n parts.0))
no_line_count n (inr many) = is_not (is_line_count n) (λ e. let parts = and_parts (ltb 0 n) (ltb n 65537) e in omega (arith, many.1, ltb-true n 65537 parts.1))

-- a position outside of the window
pub outside_window : (ns : List ℕ) (w : Window) (p : Pos) → LiesIn ns w → p ≡ with_unused 0 (used_axes (length ns) p) → (IsPosition w.size p → ⊥) → not (is_inside w.size (used_axes (length ns) p)) ≡ true
outside_window ns w p lies unused away = search (rules, outside)

-- one inside
pub within : (ns : List ℕ) (w : Window) → LiesIn ns w → (p : Pos) → IsPosition w.size p → is_inside w.size (used_axes (length ns) p) ≡ true
within ns w lies p at = subst (λ k. is_inside w.size (used_axes k p) ≡ true) lies.sizes at.inside

-- the numbers of the position of the array that a position of the window is
pub numbers_there : (ns : List ℕ) (v : Window) → IsShape ns → LiesIn ns v → (p : Pos) → used_axes (length ns) (with_unused 0 (mapped v (used_axes (length v.size) p))) ≡ mapped v (used_axes (length ns) p)
numbers_there ns v sizes lies p =
    let ms = mapped v _ in
    let four = sizes.four_at_most in
    let long = length-used_axes (length v.size) p (omega (arith, lies.sizes, four)) in
    let mapped_long = length-mapped ns v _ lies long in
    ap (λ k. used_axes k (with_unused 0 ms)) (sym mapped_long) ∙ used_axes-with_unused 0 ms (omega (arith, mapped_long, four)) ∙ ap (λ k. mapped v (used_axes k p)) lies.sizes

-- a command that is allowed is taken, and one that is not is refused, where it is sorted as m
module _ {Code : Type 0} (setting : Setting Code) (cmd m : Cmd) (is : cmd ≡ m) (s : Session Code) where
  pub taken : (t : Session Code) (reply : Option Reply) → setting.allows (asked s m) ≡ true → Does setting (asked s m) s t reply → Takes setting s (asked s cmd) t reply
  unfolding read_step
  taken t reply allowed does = search rules

  pub not_taken : setting.allows (asked s m) ≡ false → Takes setting s (asked s cmd) s (Some (Reply.refused Refusal.word))
  unfolding read_step
  not_taken refused = search (rules, refused)

-- ---- what commands do, whatever a script works on

module _ {A : Type 0} (S : Subject A) (a : A) (ready : IsReady S a) (whole : (S.session a).split ≡ None) where
  abbrev setting : Setting S.Code
  setting = S.setting (S.kept a)

  abbrev s : Session S.Code
  s = S.session a

  -- a command that is refused changes nothing
  refused : (c : Command) (reply : Option Reply) → Does setting c s s reply → Obeys S c reply a a
  refused c reply does = record { does = does; sound = ready.sound; kept = refl }

  module _ (c : Command) (none : needs_split c ≡ false) where
    pub no_size : (tests setting s c).size ≡ true → Obeys S c (Some (Reply.refused Refusal.size)) a a
    no_size size = refused c _ (refused_size setting c s ready.window (no_split s c whole none) size)

    module _ (size : (tests setting s c).size ≡ false) where
      pub no_range : (tests setting s c).range ≡ true → Obeys S c (Some (Reply.refused Refusal.range)) a a
      no_range range = refused c _ (refused_range setting c s ready.window (no_split s c whole none) size range)

      module _ (range : (tests setting s c).range ≡ false) where
        pub no_value : (tests setting s c).value ≡ true → Obeys S c (Some (Reply.refused Refusal.value)) a a
        no_value value = refused c _ (refused_value setting c s ready.window (no_split s c whole none) size range value)

        pub no_memory : (tests setting s c).value ≡ false → (tests setting s c).memory ≡ true → Obeys S c (Some (Reply.refused Refusal.memory)) a a
        no_memory value takes = refused c _ (refused_memory setting c s ready.window (no_split s c whole none) size range value takes)

  pub counted : (h m n : ℕ) → record { hits = h; misses = m; writes = n } ≡ s.state.counts → Obeys S Command.stats (Some (Reply.counts h m n)) a a
  unfolding done
  counted h m n is =
      refused Command.stats _ (accepted setting Command.stats s ready.window (no_split s Command.stats whole refl) refl refl refl s (Some (Reply.counts h m n)) refl
      (ap (λ (k : Counts). (s, Some (Reply.counts k.hits k.misses k.writes))) (sym is)) ready.window)

  module _ (b : A) where
    abbrev t : Session S.Code
    t = S.session b

    -- a command that passes all tests, and leads to this session
    done_with : {P : Setting S.Code → Session S.Code → Session S.Code → Type 0} (c : Command) (reply : Option Reply) → needs_split c ≡ false → (tests setting s c).size ≡ false → (tests setting s c).range ≡ false
        → (tests setting s c).value ≡ false → starves reply ≡ false → Leads S P a b → done setting s c ≡ (t, reply) → HasWindow t → Obeys S c reply a b
    done_with c reply none size range value fed told is inside =
        record { does = accepted setting c s ready.window (no_split s c whole none) size range value t reply fed is inside; sound = told.sound; kept = told.kept }

    module _ (u : Window) (told : Leads S (λ k x y. record x { window = u } ≡ y) a b) where
      -- another window
      windowed : (c : Command) → needs_split c ≡ false → (tests setting s c).size ≡ false → (tests setting s c).range ≡ false → (tests setting s c).value ≡ false
          → done setting s c ≡ (record s { window = u }, None) → LiesIn s.shape u → Obeys S c None a b
      windowed c none size range value is inside = done_with c None none size range value refl told (is ∙ ap (λ (x : Session S.Code). (x, None)) told.does) (subst HasWindow told.does inside)

      pub viewed : (origin size step : List ℕ) → u ≡ record { origin = origin; size = size; step = step } → LiesIn s.shape u → Obeys S (Command.view origin size step) None a b
      unfolding done
      viewed origin size step is inside =
          windowed (Command.view origin size step) refl (ap not (subst (λ x. is_window s.shape x ≡ true) is inside.inside)) refl refl (ap (λ x. (record s { window = x }, None)) (sym is)) inside

      pub cut : (axis at : ℕ) → has_place s.window axis at ≡ true → u ≡ sliced s.window axis at → Obeys S (Command.slice axis at) None a b
      unfolding done
      cut axis at there is =
          windowed (Command.slice axis at) refl refl (ap not there) refl (ap (λ x. (record s { window = x }, None)) (sym is)) (subst (LiesIn s.shape) (sym is) (LiesIn-sliced s.shape s.window axis at ready.window there))

    -- a touch keeps the window in the array
    touch_stays : (k : ℕ) → touched setting s k ≡ t → HasWindow t
    unfolding touched
    touch_stays k is = subst HasWindow is ready.window

    -- position r of the array, by one touch
    module _ (r : Pos) (n : ℤ) (told : Leads S (λ k x y. Touches k (block_in x r) x y) a b) (value : n ≡ value_there (place_in s r) (t.state.values (block_in s r))) where
      pub got : IsPosition s.shape r → Obeys S (Command.get (place_in s r)) (Some (Reply.number n)) a b
      unfolding done
      got at =
          let ps = place_in s r in
          let k = block_in s r in
          done_with (Command.get ps) (Some (Reply.number n)) refl refl (ap not at.inside) refl refl told
          (ap (λ (x : Session S.Code). (x, Some (Reply.number (value_there ps (x.state.values k))))) told.does ∙ ap (λ m. (t, Some (Reply.number m))) (sym value)) (touch_stays k told.does)

      -- it is position p of the window
      pub got_there : IsShape s.shape → (p : Pos) → IsPosition s.window.size p → r ≡ with_unused 0 (mapped s.window (used_axes (length s.window.size) p)) → Obeys S (Command.vget (place_in s p)) (Some (Reply.number n)) a b
      unfolding done
      got_there sizes p at same =
          let ps = place_in s p in
          let Get : List ℕ → Session S.Code × Option Reply = λ ms. let k = block_number s.shape ms in let x = touched setting s k in (x, Some (Reply.number (value_there ms (x.state.values k)))) in
          let rs = place_in s r in
          let k = block_in s r in
          let is_r : rs ≡ mapped s.window ps = ap (used_axes (length s.shape)) same ∙ numbers_there s.shape s.window sizes ready.window p in
          done_with (Command.vget ps) (Some (Reply.number n)) refl refl (ap not (within s.shape s.window ready.window p at)) refl refl told
          (ap Get (sym is_r) ∙ ap (λ (x : Session S.Code). (x, Some (Reply.number (value_there rs (x.state.values k))))) told.does ∙ ap (λ m. (t, Some (Reply.number m))) (sym value))
          (touch_stays k told.does)

    module _ (n m : ℤ) (same : n ≡ m) where
      pub sum_is : Leads S (λ k x y. Sums k (λ b. b) (λ b values. total values) (upto (blocks x.shape)) x y m) a b → Obeys S Command.sum (Some (Reply.number n)) a b
      unfolding done array_format
      sum_is told =
          done_with Command.sum (Some (Reply.number n)) refl refl refl refl refl told
          (ap (λ (r : Session S.Code × ℤ). (r.0, Some (Reply.number r.1))) told.does.sum_is ∙ ap (λ x. (t, Some (Reply.number x))) (sym same)) (subst HasWindow (sym told.does.stays) ready.window)

      pub vsum_is : Leads S (λ k x y. Sums k (block_number x.shape) value_there (positions x.window) x y m) a b → Obeys S Command.vsum (Some (Reply.number n)) a b
      unfolding done
      vsum_is told =
          done_with Command.vsum (Some (Reply.number n)) refl refl refl refl refl told
          (ap (λ (r : Session S.Code × ℤ). (r.0, Some (Reply.number r.1))) told.does.sum_is ∙ ap (λ x. (t, Some (Reply.number x))) (sym same)) (subst HasWindow (sym told.does.stays) ready.window)

    -- ---- commands that change it

    -- a change keeps the window in the array
    change_stays : (ps : List ℕ) (change : ℤ → ℤ) → changed_at setting s ps change ≡ t → HasWindow t
    unfolding changed_at changed touched
    change_stays ps change is = subst HasWindow is ready.window

    module _ (n m : ℤ) (same : m ≡ n) (of_type : is_of_type setting.width n ≡ true) where
      module _ (p : Pos) (at : IsPosition s.shape p) where
        pub put : Leads S (λ k x y. Changes k (place_in x p) (λ old. m) x y) a b → Obeys S (Command.set (place_in s p) n) None a b
        unfolding done
        put told =
            let ps = place_in s p in
            done_with (Command.set ps n) None refl refl (ap not at.inside) (ap not of_type) refl told
            (ap (λ (x : Session S.Code). (x, None)) (ap (λ x. changed_at setting s ps (λ old. x)) (sym same) ∙ told.does)) (change_stays ps (λ old. m) told.does)

        pub added : (w : Width) → setting.width ≡ w → Leads S (λ k x y. Changes k (place_in x p) (λ old. wrap w (old +ℤ m)) x y) a b → Obeys S (Command.add (place_in s p) n) None a b
        unfolding done
        added w width told =
            let ps = place_in s p in
            done_with (Command.add ps n) None refl refl (ap not at.inside) (ap not of_type) refl told
            (ap (λ (x : Session S.Code). (x, None)) ((λ i. changed_at setting s ps (λ old. wrap (width i) (old +ℤ sym same i))) ∙ told.does)) (change_stays ps (λ old. wrap w (old +ℤ m)) told.does)

      pub filled : Leads S (λ k x y. FillsAll k m x y) a b → Obeys S (Command.fill n) None a b
      unfolding done array_format
      filled told =
          done_with (Command.fill n) None refl refl refl (ap not of_type) refl told
          (ap (λ (x : Session S.Code). (x, None)) (ap (λ x. filled_below setting s x (upto (blocks s.shape))) (sym same) ∙ told.does.filled)) (subst HasWindow (sym told.does.stays) ready.window)

    -- ---- commands on the cache

    -- a command that passes all tests, and keeps the window
    module _ (c : Command) (none : needs_split c ≡ false) (size : (tests setting s c).size ≡ false) (range : (tests setting s c).range ≡ false) (value : (tests setting s c).value ≡ false)
        (keeps : HasWindow (done setting s c).0) (told : Leads S (λ k x y. Performs k c x y) a b) where
      pub performed : Obeys S c None a b
      performed = done_with c None none size range value refl told told.does (subst HasWindow (ap (λ (r : Session S.Code × Option Reply). r.0) told.does) keeps)

    pub lined : (n : ℕ) → is_line_count n ≡ true → Leads S (λ k x y. Performs k (Command.lines n) x y) a b → Obeys S (Command.lines n) None a b
    unfolding done
    lined n counts told = performed (Command.lines n) refl (ap not counts) refl refl ready.window told

    pub flushed : Leads S (λ k x y. Performs k Command.flush x y) a b → Obeys S Command.flush None a b
    unfolding done
    flushed told = performed Command.flush refl refl refl refl ready.window told

    pub discarded : Leads S (λ k x y. Performs k Command.discard x y) a b → Obeys S Command.discard None a b
    unfolding done
    discarded told = performed Command.discard refl refl refl refl ready.window told
