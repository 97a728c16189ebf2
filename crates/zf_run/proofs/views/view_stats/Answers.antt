use Rattle.std.proofs.Common.{rules, refl, sym, ap, ◌∙◌, not, Some}
use Rattle.zf_cached.{specs.State.{Counts}, specs.Commands.{Command}, specs.Steps.{counts_reply, done}}
use Rattle.zf_run.{specs.Sessions.{setting_of}, specs.Splits.{split_session}}
use Rattle.zf_run.proofs.Viewing.{has_view_is, has_no_view, counts_are}
use Rattle.zf_commands.proofs.Stepping.{refused_range, accepted}
use Rattle.zf_run.proofs.views.view_stats.Goals as goal

pub returns-then-i-views : goal.returns-then-i-views
returns-then-i-views g c v lies = search (rules, refused_range, has_no_view)

pub returns : goal.returns
unfolding done
returns g c v lies =
    let a = c.args.a.now in
    let views = c.args.views.now in
    let s = split_session g.T.Lane.value a views v in
    accepted (setting_of g.T.Lane.width a) (Command.pstats c.args.i) s lies refl refl (ap not (has_view_is g.T.Lane.value a views c.args.i v c.if-i-views.false)) refl s _ refl
    (ap (λ (k : Counts). (s, Some (counts_reply k))) (counts_are g.T.Lane.value a views c.args.i c.index-views-i.result c.if-i-views.false c.index-views-i.is ∙ sym c.stats.ensures)) lies
