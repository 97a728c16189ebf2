-- The lines that begin before the place are mapped, and no other value has changed.
use Rattle.std.proofs.Common.{◌*◌, map}
use Rattle.zf_axes.proofs.LineByLine.{IsMappedBelow}
use Rattle.zf_axes.proofs.axes.pass_by.Given as goal

abbrev pub invariant-loop-group : goal.invariant-loop-group
invariant-loop-group g l =
    let values = map g.T.Lane.value in
    IsMappedBelow (g.M.LineMap.line l.line_map) l.step (4 * l.step * l.group) (values l.fn.block) (values l.block)

abbrev pub invariant-loop-start : goal.invariant-loop-start
invariant-loop-start g l =
    let values = map g.T.Lane.value in
    IsMappedBelow (g.M.LineMap.line l.line_map) l.step l.start (values l.fn.block) (values l.block)
