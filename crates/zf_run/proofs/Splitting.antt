-- An array that is split into views, and the end of a split.
use Rattle.std.proofs.Common.{rules, ◌≡◌, refl, sym, ap, subst, ◌∙◌, ◌⊎◌, inl, inr, ℕ, zero, suc, ◌+◌, ◌<◌, ◌≤◌, ℤ, Bool, true, not, List, [], ◌∷◌, ◌++◌, length, length-append, get_or, Some, None, arith}
use Rattle.std.{specs.Int.{Width}, proofs.Math.Path.{fun_ext}}
use Rattle.std.proofs.lemmas.Bool.{and_from, ne_eqb, cases_lt}
use Rattle.std.proofs.lemmas.List.{length-map, length-replicate, get_or_append_left, get_or_push}
use Rattle.zf_spec.specs.Grid.{blocks}
use Rattle.zf_spec.proofs.Counting.{from_places}
use Rattle.zf_base.{specs.Widths.{width_of}, specs.Formats.{Format}, specs.declared.lane.Ty.{Ty}}
use Rattle.zf_header.{specs.declared.header.Header.{Header}, specs.declared.header.Mode.{Mode}}
use Rattle.zf_header.specs.HeaderBits.{block_bits}
use Rattle.zf_cached.{specs.State.{State, no_counts}, specs.Changes.{flush, opened, raised}, specs.Acts.{Act}}
use Rattle.zf_cached.{specs.Arrays.{rate_coding, array_format}, specs.Windows.{Window}}
use Rattle.zf_cached.{specs.Commands.{Command}}
use Rattle.zf_cached.specs.Splits.{is_view_count, is_owner, opened_view, opened_views, no_view}
use Rattle.zf_cached.specs.Steps.{Setting, Session, format_of, by_view, split_into, flushed_views, joined, is_line_count, done}
use Rattle.zf_cached.{specs.Runs.{array_setting, ended}, proofs.States.{same_state}}
use Rattle.zf_cache.{specs.Kept.{Kept, IsEmpty}, specs.Standing.{state_of}, proofs.Stands.{standing}}
use Rattle.zf_cache.{proofs.Steps.{empty_fits}, proofs.Touches.{state_is, no_tag, all_meant}}
use Rattle.zf_private.specs.Standing as private
use Rattle.zf_array.{specs.Standing.{Held, shape, state, format}, specs.Coded.{IsCoded}}
use Rattle.zf_run.{specs.Sessions.{setting_of, session_of, kind, IsArray}, proofs.Sessions.{rate_format, array_suits, still_array}}
use Rattle.zf_run.specs.Splits.{view_of, views_seen, split_session, IsPart, AreParts, IsNewPart, AreNewParts}
use Rattle.zf_run.proofs.Viewing.{is_owner_is, seen_at}
use Rattle.zf_commands.{specs.Steps.{Does, HasWindow}, proofs.Stepping.{accepted}}

-- an item of a list
item_at : {Y : Type 0} (ys : List Y) (i : ℕ) → i < length ys → (y : Y) × (y ≡ get_or ys i y)
item_at [] i lt = absurd (omega arith)
item_at (y ∷ ys) zero lt = (y, refl)
item_at (y ∷ ys) (suc i) lt = item_at ys i (omega arith)

-- ---- views as they are made

pub one_made : {X : Type 0} (d : ℕ) (ns : List ℕ) (n lines k : ℕ) (views more : List (private.Held X)) (x : private.Held X) → AreNewParts d ns n lines k views → IsNewPart d ns n lines k x
    → more ≡ views ++ x ∷ [] → AreNewParts d ns n lines (k + 1) more
one_made {X} d ns n lines k views more x made new is = subst (AreNewParts d ns n lines (k + 1)) (sym is) (record { many = many; each = λ i v lt at. by i v at lt (cases_lt i k) })
  where
    many : length (views ++ x ∷ []) ≡ k + 1
    many = length-append views (x ∷ []) ∙ ap (λ m. m + 1) made.many

    by : (i : ℕ) (v : private.Held X) → v ≡ get_or (views ++ x ∷ []) i v → i < length (views ++ x ∷ []) → (i < k) ⊎ (k ≤ i) → IsNewPart d ns n lines i v
    by i v at lt (inl less) = let below : i < length views = omega (arith, less, made.many) in made.each i v below (at ∙ get_or_append_left views (x ∷ []) v i below)
    by i v at lt (inr ge) =
        let e : i ≡ k = omega (arith, ge, lt, many) in
        let is : v ≡ x = at ∙ ap (λ m. get_or (views ++ x ∷ []) m v) e ∙ get_or_push views x v k made.many in
        subst (λ (y : private.Held X). IsNewPart d ns n lines i y) (sym is) (subst (λ m. IsNewPart d ns n lines m x) (sym e) new)

module _ {X : Type 0} (value : X → ℤ) where
  -- an empty cache over codes stands for an array as it is opened
  empty_state : (f : Format (List Bool)) (k : ℕ → List Bool) (c : Kept X) (n : ℕ) → IsEmpty c n → c.counts ≡ no_counts → state_of value c f k ≡ opened f k n
  unfolding opened
  empty_state f k c n empty counts = search (rules, length-replicate, state_is, standing, same_state, no_tag, all_meant, ne_eqb)

  module _ (d : ℕ) (a : Held) (n lines : ℕ) (some : 0 < n) where
    -- a view as it is made is one as it is opened
    new_view : (i : ℕ) (v : private.Held X) → IsNewPart d (shape a) n lines i v → view_of value a v ≡ opened_view (format a) (state a).codes lines (is_owner (blocks (shape a)) n i)
    unfolding opened_view opened
    new_view i v new = search (rules, empty_state, is_owner_is, fun_ext)

    pub new_views : (views : List (private.Held X)) → AreNewParts d (shape a) n lines n views → views_seen value a views ≡ opened_views (format a) (state a).codes lines n
    unfolding opened_views array_format
    new_views views new =
        sym (from_places (λ i. opened_view (format a) (state a).codes lines (is_owner (blocks (shape a)) n i)) n no_view (views_seen value a views) (length-map views (view_of value a) ∙ new.many)
        (λ i below. let lt : i < length views = omega (arith, below, new.many) in let v = item_at views i lt in
        seen_at value a views i v.0 lt v.1 ∙ new_view i v.0 (new.each i v.0 lt v.1)))

  -- ---- a split

  module _ (w : Width) (d : ℕ) (a b : Held) (views : List (private.Held X)) (n l lines : ℕ) (array : IsArray w d a.header) (some : 0 < n)
      (number : is_view_count (blocks (shape a)) n ≡ true) (counts : is_line_count l ≡ true) (raises : lines ≡ raised l)
      (new : AreNewParts d (shape a) n lines n views) (flushes : state b ≡ flush (format a) (state a)) (head : b.header ≡ a.header) (is_coded : IsCoded b) where
    abbrev S : Setting (List Bool)
    S = setting_of w a

    same : w ≡ width_of a.header.ty
    same = array.same_type

    same_shape : shape b ≡ shape a
    same_shape = ap (λ (h : Header). h.shape) head

    formats : format b ≡ format a
    formats = ap rate_format head

    splits : (u : Window) → split_into S (session_of a u) n (raised l) ≡ split_session value b views u
    unfolding split_into
    splits u =
        let suits = array_suits w a.header same in
        let made : Format (List Bool) → State (List Bool) → ℕ → Session (List Bool) = λ g t m. record (session_of a u) { state = t; split = Some (opened_views g t.codes m n) } in
        let there : views_seen value b views ≡ opened_views (format b) (state b).codes lines n = new_views d b n lines some views (subst (λ ns. AreNewParts d ns n lines n views) (sym same_shape) new) in
        (λ i. made (suits.coded i) (flush (suits.coded i) (state a)) (sym raises i))
        ∙ (λ i. made (sym formats i) (sym flushes i) lines)
        ∙ (λ i. record { shape = sym same_shape i; state = state b; window = u; split = Some (sym there i) })

    pub has_split : (u : Window) → HasWindow (session_of a u) → Does S (Command.split n l) (session_of a u) (split_session value b views u) None
    unfolding done array_format split_into
    has_split u lies =
        accepted S (Command.split n l) (session_of a u) lies refl (ap not (and_from (is_view_count (blocks (shape a)) n) (is_line_count l) number counts)) refl refl (split_session value b views u) None refl
        (ap (λ (s : Session (List Bool)). (s, None)) (splits u)) (subst HasWindow (splits u) lies)

    pub are_parts : AreParts value w d b views
    unfolding array_format
    are_parts = record {
      array = still_array w d a.header b.header head array;
      is_coded = is_coded;
      number = subst (λ m. is_view_count (blocks (shape b)) m ≡ true) (sym new.many) (subst (λ ns. is_view_count (blocks ns) n ≡ true) (sym same_shape) number);
      each = λ i v lt at. subst (λ m. IsPart value d b m i v) (sym new.many) (part i v (new.each i v lt at));
    }
      where
        part : (i : ℕ) (v : private.Held X) → IsNewPart d (shape a) n lines i v → IsPart value d b n i v
        part i v is =
            let shapes : v.shape ≡ shape b = is.shape ∙ sym same_shape in
            let fits = empty_fits value (format b) (state b).codes v.cache lines is.empty in search rules

  -- ---- the end of a split

  -- the views were flushed
  pub joins : (w : Width) (a b : Held) (views news : List (private.Held X)) (u : Window) → flushed_views (setting_of w a) (split_session value a views u) (length views) ≡ split_session value b news u
      → joined (setting_of w a) (split_session value a views u) ≡ session_of b u
  unfolding joined
  joins w a b views news u flushed = search (rules, length-map)

  pub none_flushed : (w : Width) (a : Held) (views : List (private.Held X)) (u : Window) → flushed_views (setting_of w a) (split_session value a views u) 0 ≡ split_session value a views u
  unfolding flushed_views
  none_flushed w a views u = refl

  -- one view more
  pub one_flushed : (w : Width) (a b c : Held) (views olds news : List (private.Held X)) (u : Window) (i : ℕ) → kind b ≡ kind a → flushed_views (setting_of w a) (split_session value a views u) i ≡ split_session value b olds u
      → (by_view (setting_of w b) (split_session value b olds u) i Act.flush).0 ≡ split_session value c news u → flushed_views (setting_of w a) (split_session value a views u) (i + 1) ≡ split_session value c news u
  unfolding flushed_views
  one_flushed w a b c views olds news u i kept before acts = search rules

-- a whole array has no split to end
pub whole_joins : (w : Width) (a : Held) (u : Window) → joined (setting_of w a) (session_of a u) ≡ session_of a u
unfolding joined flushed_views
whole_joins w a u = refl

-- ---- the end of a run

pub ends : (w : Width) (a mid b : Held) (s : Session (List Bool)) (u : Window) → w ≡ width_of mid.header.ty → kind mid ≡ kind a → joined (setting_of w a) s ≡ session_of mid u
    → state b ≡ flush (format mid) (state mid) → b.header ≡ mid.header → ended (setting_of w a) s ≡ session_of b u
unfolding ended
ends w a mid b s u same kept joins flushes head =
    let coded : format_of (setting_of w a) (session_of mid u) ≡ format mid =
    ap (λ (k : Ty × Mode). format_of (array_setting w (block_bits k.1)) (session_of mid u)) (sym kept) ∙ (array_suits w mid.header same).coded in search rules
