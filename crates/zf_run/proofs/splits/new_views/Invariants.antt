use Rattle.zf_run.specs.Splits.{AreNewParts}
use Rattle.zf_run.proofs.splits.new_views.Given as goal

abbrev pub invariant-loop-i : goal.invariant-loop-i
invariant-loop-i g l = AreNewParts g.row.D l.shape l.count l.lines l.i l.views.items
