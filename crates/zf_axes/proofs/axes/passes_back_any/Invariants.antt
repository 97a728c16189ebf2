-- The passes along the axes from this one on have been made, the last one first.
use Rattle.std.proofs.Common.{◌≡◌, ◌-◌, ◌^◌, map}
use Rattle.zf_spec.specs.Lift.{along_axes_back}
use Rattle.zf_axes.proofs.axes.passes_back_any.Given as goal

abbrev pub invariant-loop-axis : goal.invariant-loop-axis
invariant-loop-axis g l =
    let values = map g.T.Lane.value in
    values l.block ≡ along_axes_back (g.M.LineMap.line l.line_map) (4 ^ l.axis) (l.d - l.axis) (values l.initial.block)
