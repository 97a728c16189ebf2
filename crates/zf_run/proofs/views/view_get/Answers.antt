use Rattle.std.proofs.Common.{refl, sym, ap, ◌∙◌, not, length, get_or, Some, lit<, lit≤, rules}
use Rattle.std.specs.Option.{option_map}
use Rattle.zf_base.specs.Positions.{used_axes}
use Rattle.zf_cached.{specs.Commands.{Command}, specs.Replies.{Reply}, specs.Acts.{Act}}
use Rattle.zf_cached.{specs.Views.{answered}, specs.Steps.{by_view, done}, specs.Runs.{array_setting}}
use Rattle.zf_private.specs.Standing as private
use Rattle.zf_array.{specs.Standing.{shape}, proofs.Coded.{coded_empty}}
use Rattle.zf_run.{specs.Sessions.{setting_of}, specs.Splits.{split_session}}
use Rattle.zf_run.proofs.Lending.{lent_ready, at_view, act_there, lent}
use Rattle.zf_commands.{proofs.Stepping.{refused_range}, proofs.Wide.{wide}}
use Rattle.zf_run.proofs.views.view_get.Goals as goal

pub returns-then-not-has_position : goal.returns-then-not-has_position
returns-then-not-has_position g c =
    let a = c.args.a.now in record {
      does = λ v lies. refused_range (setting_of g.T.Lane.width a) (Command.pget c.args.i (used_axes (length (shape a)) c.args.p)) (split_session g.T.Lane.value a c.args.views.now v) lies refl refl
          (ap not (sym (c.has_position.ensures.has v) ∙ c.if-not-has_position.true));
      parts = c.requires.parts;
      kept = refl;
    }

pub bind-requires : goal.bind-requires
bind-requires g c = (lit≤ tt, (lit≤ tt, coded_empty c.args.a.now c.requires.parts.is_coded))

pub get-value-requires : goal.get-value-requires
get-value-requires g c =
    let has = c.has_position.ensures in
    let there = at_view _ g.T.Lane.width g.row.D _ _ c.args.i c.requires.parts _ c.index-views-i.is _ c.if-not-has_position.false has.number c.args.p c.requires.unused has.has in
    let ready = lent_ready _ g.T.Lane.width g.row.D _ _ c.args.i _ c.requires.parts there.below there.at c.bind.result.array c.bind.ensures.array in
    (lit< tt, record { fits = ready.fits; blocks = ready.over; places = ready.places; position = there.position; owned = there.own })

pub returns : goal.returns
unfolding done answered array_setting
returns g c =
    let a = c.args.a.now in
    let value = g.T.Lane.value in
    let x = get_or _ c.args.i c.index-views-i.result in
    let has = c.has_position.ensures in
    let there = at_view value g.T.Lane.width g.row.D a _ c.args.i c.requires.parts _ c.index-views-i.is _ c.if-not-has_position.false has.number c.args.p c.requires.unused has.has in
    let ps = used_axes (length (shape a)) c.args.p in
    let told = wide g.T.Lane.width g.met.T.Lane.two_widths c.to_wide.result (value c.get-value.result) c.to_wide.ensures.value (g.met.T.Lane.in_range_fits (value c.get-value.result)) c.to_wide.ensures.operand in
    let back = c.get-value.new.back in
    let taken = lent value g.T.Lane.width g.row.D a _ c.args.i x c.requires.parts there.below there.at
    c.a-1.given.0 c.get-value.new.self (Act.get (private.block_at x c.args.p) (private.place_at x c.args.p)) c.bind.result.array back.array c.bind.ensures.array (search rules)
    (search rules) (search rules) there.own in record {
      does = λ v lies. taken.takes v (Command.pget c.args.i ps) (Some (Reply.number _)) lies refl refl (ap not (there.has v)) refl (ap (option_map Reply.number) (sym c.get-value.ensures.value) ∙ ap (λ z. Some (Reply.number z)) (sym told)) refl
          (ap (by_view (setting_of g.T.Lane.width a) (split_session value a _ v) c.args.i) (sym (act_there value g.T.Lane.width g.row.D a _ c.args.i x c.requires.parts there.below there.at c.args.p (λ b q. Act.get b q))));
      parts = taken.parts;
      kept = taken.kind_is;
    }
