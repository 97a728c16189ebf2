-- The passes along the axes to come make of the block now what all make of the block at the start.
use Rattle.std.proofs.Common.{◌≡◌, ◌-◌, ◌^◌, map}
use Rattle.zf_spec.specs.Lift.{along_axes}
use Rattle.zf_axes.proofs.axes.passes_any.Given as goal

abbrev pub invariant-loop-axis : goal.invariant-loop-axis
invariant-loop-axis g l =
    let values = map g.T.Lane.value in
    let along = along_axes (g.M.LineMap.line l.line_map) in
    along (4 ^ l.axis) (l.d - l.axis) (values l.block) ≡ along 1 l.d (values l.initial.block)
