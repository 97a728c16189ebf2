-- The end of a split: each view's dirty blocks are rounded, and all other codes stay.
use Rattle.std.proofs.Common.{◌≡◌, ◌≢◌, refl, sym, ap, subst, ◌∙◌, ℕ, zero, suc, ◌<◌, ◌≤◌, true, false, length, ◌⊎◌, inl, inr, arith, rules}
use Rattle.std.{proofs.lemmas.Bool.{cases_eq, false_from_ne_true}, proofs.lemmas.List.{get_or-set_other}}
use Rattle.zf_base.specs.Formats.{Format, meant, encoded, rounded}
use Rattle.zf_cached.{specs.State.{State}, specs.Changes.{flush}, specs.Arrays.{array_format}}
use Rattle.zf_cached.specs.Placing.{Line, IsPlacing, direct, IsDirect, direct_placing}
use Rattle.zf_cached.{specs.Views.{View, with_codes, acted}, specs.Splits.{is_owner, no_view, view_at, coded}}
use Rattle.zf_cached.specs.Steps.{Setting, Session, format_of, is_split, views_of, state_of_view, by_view, with_view, flushed_views, joined}
use Rattle.zf_cached.{specs.Consistency.{IsConsistent, IsEmpty, IsSound}, specs.Fates.{IsRounded}}
use Rattle.zf_cached.{proofs.Flushing.{flush-dirty_codes, flush-clean}, proofs.Placed.{flush-empty}}
use Rattle.zf_cached.proofs.Parts.{one_owner}
use Rattle.zf_cached.proofs.Sessions.{no_views, flushed_views-count, flushed_views-sound}

module _ (line : Line) (may_hold : ℕ → ℕ → ℕ → Type 0) (placing : IsPlacing line may_hold) {Code : Type 0} (setting : Setting Code) (s : Session Code) (h : IsSound line setting s) where
  abbrev f : Format Code
  f = format_of setting s

  abbrev n : ℕ
  n = length (views_of s)

  abbrev seen : ℕ → View
  seen i = view_at (views_of s) i

  -- where the first m views are flushed
  abbrev u : ℕ → Session Code
  u m = flushed_views setting s m

  same_shape : (m : ℕ) → (u m).shape ≡ s.shape
  unfolding flushed_views by_view with_view
  same_shape zero = refl
  same_shape (suc m) = same_shape m

  same_view : (m j : ℕ) → m ≤ j → view_at (views_of (u m)) j ≡ seen j
  unfolding flushed_views by_view with_view
  same_view zero j le = refl
  same_view (suc m) j le = get_or-set_other (views_of (u m)) m j _ no_view (λ e. omega (arith, e, le)) ∙ same_view m j (omega (arith, le))

  still_split : is_split s ≡ true → (m : ℕ) → is_split (u m) ≡ true
  unfolding flushed_views by_view with_view
  still_split e zero = e
  still_split e (suc m) = refl

  abbrev before : ℕ → State Code
  before m = with_codes (seen m) (u m).state.codes

  flushed_codes : (m : ℕ) → (u (suc m)).state.codes ≡ (flush f (before m)).codes
  unfolding flushed_views by_view with_view coded acted
  flushed_codes m = let here : m ≤ m = omega arith in (λ i. (flush (array_format setting.coding (same_shape m i)) (with_codes (same_view m m here i) (u m).state.codes)).codes)

  view_consistent : (m : ℕ) → m < n → IsConsistent direct (is_owner f.blocks n m) f (before m)
  view_consistent m lt =
      let here : m ≤ m = omega arith in
      let k = (flushed_views-sound line may_hold placing setting s m (omega (arith, lt)) h).views m (omega (arith, lt, flushed_views-count setting s m)) in
      subst (λ v. IsConsistent direct (is_owner f.blocks n m) f (with_codes v (u m).state.codes)) (same_view m m here)
      (subst (λ ns. IsConsistent direct (is_owner (array_format setting.coding ns).blocks n m) (array_format setting.coding ns) (with_codes (view_at (views_of (u m)) m) (u m).state.codes)) (same_shape m)
      (subst (λ c. IsConsistent direct (is_owner (format_of setting (u m)).blocks c m) (format_of setting (u m)) (state_of_view (u m) m)) (flushed_views-count setting s m) k))

  cleaned : (m : ℕ) → m < n → IsEmpty (flush f (before m))
  cleaned m lt = flush-empty direct IsDirect direct_placing (is_owner f.blocks n m) f (before m) (view_consistent m lt)

  -- a block is dirty in one view at most
  owner : (i b : ℕ) → i < n → (seen i).dirty b ≡ true → is_owner f.blocks n i b ≡ true
  owner i b lt dirty = let k = h.views i lt in k.held_is_owned _ b (k.dirty_is_here b dirty)

  other_clean : (i m b : ℕ) → i < n → m < n → i ≢ m → (seen i).dirty b ≡ true → (seen m).dirty b ≡ false
  other_clean i m b lt below ne dirty = false_from_ne_true ((seen m).dirty b) (λ e. one_owner f.blocks n (omega (arith, lt)) i m b ne (owner i b lt dirty) (owner m b below e))

  written : (m : ℕ) → m ≤ n → (i b : ℕ) → i < m → (seen i).dirty b ≡ true → (u m).state.codes b ≡ encoded f b ((seen i).values b)
  written zero most i b lt dirty = absurd (omega (arith, lt))
  written (suc m) most i b lt dirty = ap (λ k. k b) (flushed_codes m) ∙ by (cases_eq i m) (λ less. written m (omega (arith, most)) i b less dirty)
    where
      by : (i ≡ m) ⊎ (i ≡ m → ⊥) → (i < m → (u m).state.codes b ≡ encoded f b ((seen i).values b)) → (flush f (before m)).codes b ≡ encoded f b ((seen i).values b)
      by (inl e) rest =
          (flush-dirty_codes f (before m) b ((cleaned m (omega (arith, most))).none_dirty b) (ap (λ k. (seen k).dirty b) (sym e) ∙ dirty)).0
          ∙ ap (λ k. encoded f b ((seen k).values b)) (sym e)
      by (inr ne) rest = search (rules, flush-clean, other_clean)

  untouched : (m : ℕ) → m ≤ n → (b : ℕ) → ((i : ℕ) → i < m → (seen i).dirty b ≡ false) → (u m).state.codes b ≡ s.state.codes b
  unfolding flushed_views
  untouched zero most b clean = refl
  untouched (suc m) most b clean =
      ap (λ k. k b) (flushed_codes m) ∙ (flush-clean f (before m) b (clean m (omega arith))).0 ∙ untouched m (omega (arith, most)) b (λ i lt. clean i (omega (arith, lt)))

  -- the array stands for its codes afterwards
  pub joined-empty : is_split s ≡ true → IsEmpty (joined setting s).state
  unfolding joined
  joined-empty split = (flushed_views-sound line may_hold placing setting s n (omega arith) h).split (still_split split n)

  pub joined-values : is_split s ≡ true → (b : ℕ) → (joined setting s).state.values b ≡ meant f b ((joined setting s).state.codes b)
  unfolding joined
  joined-values split b = search (rules, flushed_views-sound, same_shape, still_split)

  pub joined-rounded : (i b : ℕ) → i < n → (state_of_view s i).dirty b ≡ true → IsRounded f (state_of_view s i) (joined setting s).state b
  unfolding rounded joined
  joined-rounded i b lt dirty = let code = written n (omega arith) i b lt dirty in search (rules, no_views, joined-empty, joined-values)

  pub joined-kept : (b : ℕ) → ((i : ℕ) → i < n → (state_of_view s i).dirty b ≡ false) → (joined setting s).state.codes b ≡ s.state.codes b
  unfolding joined
  joined-kept b clean = untouched n (omega arith) b clean
