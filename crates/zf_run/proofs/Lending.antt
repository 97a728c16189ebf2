-- A call of a view over the codes of an array, which were lent to it.
use Rattle.std.proofs.Common.{rules, ◌≡◌, sym, ap, subst, ◌∙◌, ℕ, ◌<◌, ℤ, Bool, true, List, length, get_or}
use Rattle.std.{specs.Borrow.{MutBor}, specs.Int.{Width}, specs.Option.{option_map}}
use Rattle.zf_base.{specs.Places.{block_number, place_of}}
use Rattle.zf_base.{specs.Positions.{used_axes, with_unused, IsPosition}, specs.declared.position.Pos.{Pos}}
use Rattle.zf_cached.{specs.Windows.{Window, whole}, specs.Replies.{Reply}, specs.Steps.{view_has}}
use Rattle.zf_cached.{specs.Acts.{Act}, specs.Views.{answered, IsWithin}}
use Rattle.zf_private.specs.Standing as private
use Rattle.zf_private.{specs.Standing.{Own}, specs.Several.{IsReady}}
use Rattle.zf_array.{specs.Standing.{Held, shape, state, format}, specs.Coded.{Frame, frame_of}}
use Rattle.zf_run.specs.Splits.{view_state, split_session, AreParts}
use Rattle.zf_run.proofs.Viewing.{HasActed, HasTaken, taken, has_inside, owner_owns}

-- view v, of number i, has position p
pub record IsAtView {X : Type 0} (value : X → ℤ) (a : Held) (views : List (private.Held X)) (i : ℕ) (v : private.Held X) (p : Pos) : Type 0 where
  pub below : i < length views
  pub at : v ≡ get_or views i v
  pub has : (u : Window) → view_has (split_session value a views u) i (used_axes (length (shape a)) p) ≡ true
  pub position : IsPosition v.shape p
  pub own : Own v (private.block_at v p)

module _ {X : Type 0} (value : X → ℤ) (w : Width) (d : ℕ) (a : Held) (views : List (private.Held X)) (i : ℕ) (v : private.Held X) (parts : AreParts value w d a views) (lt : i < length views) (at : v ≡ get_or views i v) where
  -- the view fits the codes as they were lent
  pub lent_ready : (s : MutBor Held) → s.now ≡ a → IsReady value d v (format s.now) (state s.now).codes
  lent_ready s begins = subst (λ x. IsReady value d v (format x) (state x).codes) (sym begins) (parts.each i v lt at).ready

  -- an act at a position, by the view's sizes and the array's
  pub act_there : (p : Pos) (act : ℕ → ℕ → Act)
      → act (private.block_at v p) (private.place_at v p) ≡ act (block_number (shape a) (used_axes (length (shape a)) p)) (place_of (used_axes (length (shape a)) p))
  act_there p act = ap (λ ns. act (block_number ns (used_axes (length ns) p)) (place_of (used_axes (length ns) p))) (parts.each i v lt at).shape_is

  -- the array b after the call, and the views: what is answered is what the view has afterwards
  pub lent : (b : Held) (n : private.Held X) (act : Act) (s r : MutBor Held) → s.now ≡ a → b ≡ r.now → frame_of r ≡ frame_of s
      → HasActed value w d v n s.now r.now act → IsWithin (Own v) act → HasTaken value w d a b views i n act (option_map Reply.number (answered (view_state value r.now n) act))
  lent b n act s r begins ends kept has within =
      let answer = option_map Reply.number (answered (view_state value r.now n) act) in
      subst (λ (p : Held × Held). HasTaken value w d p.0 p.1 views i n act answer) (λ j. (begins j, sym ends j))
      (taken value w d s.now r.now views i v n act (subst (λ h. AreParts value w d h views) (sym begins) parts) lt at
      (ap (λ (f : Frame). (f.header, f.lines, f.counts)) kept) has within)

-- the view that has a position, as the test finds it
module _ {X : Type 0} (value : X → ℤ) (w : Width) (d : ℕ) (a : Held) (views : List (private.Held X)) (i : ℕ) (parts : AreParts value w d a views) where
  pub at_view : (r : private.Held X) → r ≡ get_or views i r → (t : Bool) → t ≡ true → (t ≡ true → i < length views)
      → (p : Pos) → p ≡ with_unused 0 (used_axes (length (shape a)) p) → ((u : Window) → t ≡ view_has (split_session value a views u) i (used_axes (length (shape a)) p))
      → IsAtView value a views i (get_or views i r) p
  at_view r is t true_is number p unused has =
      let v = get_or views i r in let lt = number true_is in let at : v ≡ get_or views i v = ap (get_or views i) is in let u = whole (shape a) in
      let here = sym (has u) ∙ true_is in let inside = has_inside value a views i _ u here in
      let own = owner_owns value a views i _ w d v parts lt at u here in let part = parts.each i v lt at in search rules
