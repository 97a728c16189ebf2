use Rattle.std.proofs.Common.{rules}
use Rattle.zf_run.proofs.Splitting.{one_made}
use Rattle.zf_run.proofs.splits.new_views.Goals as goal

pub loop-i-preserved : goal.loop-i-preserved
loop-i-preserved g c =
    let made = c.in_ok-new.ensures in
    one_made g.row.D _ c.args.count c.args.lines c.loop-i.i c.loop-i.views.items _ c.in_ok-new.field-0 c.loop-i.invariant (search rules) c.in_ok-push.ensures.items
