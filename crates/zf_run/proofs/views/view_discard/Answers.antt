use Rattle.std.proofs.Common.{rules, refl, ap, ◌∙◌, not, get_or, length, None}
use Rattle.zf_cached.{specs.Views.{answered}, specs.Steps.{done}, specs.Commands.{Command}, specs.Acts.{Act}}
use Rattle.zf_cache.proofs.Steps.{empty_fits, discarded}
use Rattle.zf_private.proofs.Others.{acted-discard}
use Rattle.zf_array.specs.Standing.{state, format}
use Rattle.zf_run.{specs.Splits.{view_state}, proofs.Viewing.{has_view_is, has_no_view, taken}}
use Rattle.zf_commands.proofs.Stepping.{refused_range}
use Rattle.zf_run.proofs.views.view_discard.Goals as goal

pub returns-then-i-views : goal.returns-then-i-views
returns-then-i-views g c = search (rules, refused_range, has_no_view)

pub returns : goal.returns
unfolding done answered
returns g c =
    let a = c.args.a.now in
    let views = c.args.views.now in
    let i = c.args.i in
    let value = g.T.Lane.value in
    let x = get_or views i c.index-views-i.result in
    let at = ap (get_or views i) c.index-views-i.is in
    let lt = c.if-i-views.false in
    let ready = (c.requires.parts.each i x lt at).ready in
    let new = c.discard.new.self in let told = c.discard.ensures in
    let step = discarded value (format a) (state a).codes x.cache new.cache ready.fits told.empty told.counts ∙ acted-discard g.T.Lane.width (format a) (view_state value a x) in
    let fits = empty_fits value (format a) (state a).codes new.cache (length x.cache.tags) told.empty in
    let told_by = taken value g.T.Lane.width g.row.D a a views i x new Act.discard c.requires.parts lt at refl
    (record { is_coded = c.requires.parts.is_coded; step = step; others = λ k not. refl; kept = told.same; whole = told.whole; fits = fits }) tt in
    record { does = λ v lies. told_by.takes v (Command.pdiscard i) None lies refl refl (ap not (has_view_is value a views i v lt)) refl refl refl refl; parts = told_by.parts; kept = told_by.kind_is }
