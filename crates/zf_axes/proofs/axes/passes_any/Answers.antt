use Rattle.std.proofs.Common.{◌≡◌, ◌^◌, length, arith}
use Rattle.zf_axes.{proofs.Strides.{step_some, step_below, step_whole}, proofs.AxisByAxis.{along_axes-next}}
use Rattle.zf_axes.proofs.axes.passes_any.Goals as goal

pub step_along-requires : goal.step_along-requires
step_along-requires g c = let inside = step_below c.loop-axis.axis c.args.d c.loop-axis-test.true in omega arith

pub pass-requires-clause-step : goal.pass-requires-clause-step
pass-requires-clause-step g c = rw c.step_along.ensures (step_some c.loop-axis.axis)

pub pass-requires-clause-whole : goal.pass-requires-clause-whole
pass-requires-clause-whole g c =
    let long : length c.loop-axis.block ≡ 4 ^ c.args.d = omega arith in
    rw (long, c.step_along.ensures) (step_whole c.loop-axis.axis c.args.d c.loop-axis-test.true)

pub loop-axis-preserved : goal.loop-axis-preserved
loop-axis-preserved g c = along_axes-next _ _ _ _ _ _ c.loop-axis-test.true (rw c.step_along.ensures at c.pass.ensures) c.loop-axis.invariant
