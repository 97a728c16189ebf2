use Rattle.std.proofs.Common.{◌≡◌, length}
use Rattle.zf_cached.{specs.Windows.{Window}, specs.Steps.{flushed_views}}
use Rattle.zf_run.{specs.Sessions.{setting_of, kind}, specs.Splits.{split_session, AreParts}}
use Rattle.zf_run.proofs.views.flush_views.Given as goal

abbrev pub invariant-loop-i : goal.invariant-loop-i
invariant-loop-i g l =
    let value = g.T.Lane.value in record {
      flushed : (v : Window) → flushed_views (setting_of g.T.Lane.width l.fn.a) (split_session value l.fn.a l.fn.views v) l.i ≡ split_session value l.a l.views v;
      parts : AreParts value g.T.Lane.width g.row.D l.a l.views;
      kept : kind l.a ≡ kind l.fn.a;
      many : length l.views ≡ length l.fn.views;
    }
