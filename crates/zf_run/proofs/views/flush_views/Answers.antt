use Rattle.std.proofs.Common.{rules}
use Rattle.zf_run.proofs.Splitting.{none_flushed, one_flushed}
use Rattle.zf_run.proofs.views.flush_views.Goals as goal

pub loop-i-init : goal.loop-i-init
loop-i-init g c = search (rules, none_flushed)

pub loop-i-preserved : goal.loop-i-preserved
loop-i-preserved g c = search (rules, one_flushed)
