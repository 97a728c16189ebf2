use Rattle.std.proofs.Common.{◌-◌, arith, rules}
use Rattle.zf_axes.proofs.Strides.{step_some, step_below, step_whole}
use Rattle.zf_axes.proofs.AxisByAxis.{along_axes_back-next}
use Rattle.zf_axes.proofs.axes.passes_back_any.Goals as goal

pub step_along-requires : goal.step_along-requires
step_along-requires g c = let inside = step_below (c.loop-axis.axis - 1) c.args.d (omega arith) in omega arith

pub pass-requires-clause-step : goal.pass-requires-clause-step
pass-requires-clause-step g c = rw c.step_along.ensures (step_some (c.loop-axis.axis - 1))

pub pass-requires-clause-whole : goal.pass-requires-clause-whole
pass-requires-clause-whole g c = search (rules, step_whole)

pub loop-axis-preserved : goal.loop-axis-preserved
loop-axis-preserved g c = along_axes_back-next _ _ _ _ _ _ c.loop-axis-test.true (omega arith) (rw c.step_along.ensures at c.pass.ensures) c.loop-axis.invariant
