use Rattle.std.proofs.Common.{◌≡◌, ℕ, refl, sym, ap, subst, ◌∙◌, not, Bool, true, false, List, length, get_or, None, ℤ, lit<, lit≤, rules}
use Rattle.std.{specs.Option.{option_map}, specs.Int.{Width, w128}, proofs.lemmas.Int.{to_z-of_z}}
use Rattle.zf_base.{specs.Positions.{used_axes}, specs.Places.{block_number, place_of}}
use Rattle.zf_cached.{specs.Windows.{Window}, specs.State.{State}}
use Rattle.zf_cached.{specs.Views.{answered, IsWithin}, specs.Runs.{array_setting}, specs.Replies.{Reply}}
use Rattle.zf_cached.specs.Steps.{tests, refuses_split, view_has, by_view, is_of_type, done}
use Rattle.zf_private.specs.Standing as private
use Rattle.zf_private.specs.Standing.{Own}
use Rattle.zf_array.{specs.Standing.{Held, shape}, proofs.Coded.{coded_empty}}
use Rattle.zf_run.{specs.Sessions.{setting_of}, specs.declared.views.Change.{Change}}
use Rattle.zf_run.{specs.Changes.{change_cmd, change_act}, specs.Splits.{split_session}}
use Rattle.zf_run.proofs.Lending.{lent_ready, at_view, act_there, lent}
use Rattle.zf_run.specs.declared.views.Change.TheVariants as changes
use Rattle.zf_commands.proofs.Stepping.{refused_range, refused_value}
use Rattle.zf_run.proofs.views.view_change.Goals as goal

-- what is tested before a change of a value, and what is done: it tells nothing, and is a change of its block alone
record Asks {X : Type 0} (change : Change) (w : Width) (value : X → ℤ) (a : Held) (views : List (private.Held X)) (i : ℕ) (ps : List ℕ) (v : ℤ) : Type 1 where
  split : (u : Window) → refuses_split (split_session value a views u) (change_cmd change i ps v) ≡ false
  size : (u : Window) → (tests (setting_of w a) (split_session value a views u) (change_cmd change i ps v)).size ≡ false
  range : (u : Window) → (tests (setting_of w a) (split_session value a views u) (change_cmd change i ps v)).range ≡ not (view_has (split_session value a views u) i ps)
  number : (u : Window) → (tests (setting_of w a) (split_session value a views u) (change_cmd change i ps v)).value ≡ not (is_of_type w v)
  does : (u : Window) → done (setting_of w a) (split_session value a views u) (change_cmd change i ps v)
      ≡ by_view (setting_of w a) (split_session value a views u) i (change_act change (block_number (shape a) ps) (place_of ps) v)
  silent : (s : State (List Bool)) (b p : ℕ) (x : ℤ) → answered s (change_act change b p x) ≡ None
  within : (P : ℕ → Type 0) (b p : ℕ) (x : ℤ) → P b → IsWithin P (change_act change b p x)

asks : {X : Type 0} (change : Change) (w : Width) (value : X → ℤ) (a : Held) (views : List (private.Held X)) (i : ℕ) (ps : List ℕ) (v : ℤ) → Asks change w value a views i ps v
unfolding done answered array_setting
asks changes.Add w value a views i ps v = record { split = λ u. refl; size = λ u. refl; range = λ u. refl; number = λ u. refl; does = λ u. refl; silent = λ s b p x. refl; within = λ P b p x own. own }
asks changes.Put w value a views i ps v = record { split = λ u. refl; size = λ u. refl; range = λ u. refl; number = λ u. refl; does = λ u. refl; silent = λ s b p x. refl; within = λ P b p x own. own }

pub returns-then-not-has_position : goal.returns-then-not-has_position
returns-then-not-has_position g c =
    let a = c.args.a.now in
    let ps = used_axes (length (shape a)) c.args.p in
    let asked = asks c.args.change g.T.Lane.width g.T.Lane.value a c.args.views.now c.args.i ps c.args.v in record {
      does = λ v lies. refused_range (setting_of g.T.Lane.width a) (change_cmd c.args.change c.args.i ps c.args.v) (split_session g.T.Lane.value a c.args.views.now v) lies (asked.split v) (asked.size v)
          (asked.range v ∙ ap not (sym (c.has_position.ensures.has v) ∙ c.if-not-has_position.true));
      parts = c.requires.parts;
      kept = refl;
    }

pub returns-in_default : goal.returns-in_default
returns-in_default g c =
    let a = c.args.a.now in
    let ps = used_axes (length (shape a)) c.args.p in
    let asked = asks c.args.change g.T.Lane.width g.T.Lane.value a c.args.views.now c.args.i ps c.args.v in record {
      does = λ v lies. refused_value (setting_of g.T.Lane.width a) (change_cmd c.args.change c.args.i ps c.args.v) (split_session g.T.Lane.value a c.args.views.now v) lies (asked.split v) (asked.size v)
          (asked.range v ∙ ap not (sym (c.has_position.ensures.has v) ∙ c.if-not-has_position.false))
          (asked.number v ∙ ap not (subst (λ x. is_of_type g.T.Lane.width x ≡ false) (to_z-of_z w128 c.args.v c.ranges.v) c.in_default.ensures.none));
      parts = c.requires.parts;
      kept = refl;
    }

pub bind-requires : goal.bind-requires
bind-requires g c = (lit≤ tt, (lit≤ tt, coded_empty c.args.a.now c.requires.parts.is_coded))

pub change_value-requires : goal.change_value-requires
change_value-requires g c =
    let has = c.has_position.ensures in
    let there = at_view _ g.T.Lane.width g.row.D _ _ c.args.i c.requires.parts _ c.index-views-i.is _ c.if-not-has_position.false has.number c.args.p c.requires.unused has.has in
    let ready = lent_ready _ g.T.Lane.width g.row.D _ _ c.args.i _ c.requires.parts there.below there.at c.bind.result.array c.bind.ensures.array in
    (lit< tt, record { fits = ready.fits; blocks = ready.over; places = ready.places; position = there.position; owned = there.own })

pub returns : goal.returns
returns g c =
    let a = c.args.a.now in
    let views = c.args.views.now in
    let value = g.T.Lane.value in
    let x = get_or views c.args.i c.index-views-i.result in
    let has = c.has_position.ensures in
    let there = at_view value g.T.Lane.width g.row.D a views c.args.i c.requires.parts _ c.index-views-i.is _ c.if-not-has_position.false has.number c.args.p c.requires.unused has.has in
    let ps = used_axes (length (shape a)) c.args.p in
    let is = c.in-Some.ensures.value ∙ to_z-of_z w128 c.args.v c.ranges.v in
    let back = c.change_value.new.back in
    let asked = asks c.args.change g.T.Lane.width value a views c.args.i ps c.args.v in
    let taken = lent value g.T.Lane.width g.row.D a views c.args.i x c.requires.parts there.below there.at
    c.a-1.given.0 c.change_value.new.view (change_act c.args.change (private.block_at x c.args.p) (private.place_at x c.args.p) (value c.in-Some.v)) c.bind.result.array back.array c.bind.ensures.array (search rules)
    (search rules) (search rules) (asked.within (Own x) _ _ _ there.own) in record {
      does = λ v lies. taken.takes v (change_cmd c.args.change c.args.i ps c.args.v) None lies (asked.split v) (asked.size v) (asked.range v ∙ ap not (there.has v)) (asked.number v ∙ ap not (subst (λ z. is_of_type g.T.Lane.width z ≡ true) (to_z-of_z w128 c.args.v c.ranges.v) c.in-Some.ensures.some)) (ap (option_map Reply.number) (asked.silent _ _ _ _)) refl
          (asked.does v ∙ ap (by_view (setting_of g.T.Lane.width a) (split_session value a views v) c.args.i)
          (sym (act_there value g.T.Lane.width g.row.D a views c.args.i x c.requires.parts there.below there.at c.args.p (λ b q. change_act c.args.change b q (value c.in-Some.v)) ∙ ap (λ (z : ℤ). change_act c.args.change (block_number (shape a) ps) (place_of ps) z) is)));
      parts = taken.parts;
      kept = taken.kind_is;
    }
