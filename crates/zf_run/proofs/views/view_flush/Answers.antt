use Rattle.std.proofs.Common.{rules, refl}
use Rattle.zf_run.{specs.Sessions.{setting_of}, specs.Splits.{split_session}}
use Rattle.zf_run.proofs.Viewing.{has_view_is, has_no_view, flushes_view}
use Rattle.zf_commands.proofs.Stepping.{refused_range}
use Rattle.zf_run.proofs.views.view_flush.Goals as goal

pub returns-then-i-views : goal.returns-then-i-views
returns-then-i-views g c = search (rules, refused_range, has_no_view)

pub returns : goal.returns
returns g c =
    let a = c.args.a.now in record {
      does = λ v lies. flushes_view (setting_of g.T.Lane.width a) (split_session g.T.Lane.value a c.args.views.now v) _ c.args.i lies refl
          (has_view_is g.T.Lane.value a c.args.views.now c.args.i v c.if-i-views.false) (c.flush_view.ensures.acts v);
      parts = c.flush_view.ensures.parts;
      kept = c.flush_view.ensures.kept;
    }
