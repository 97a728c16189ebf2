use Rattle.std.{proofs.Common.{ℕ, ◌^◌, ◌≤◌, arith}, proofs.Math.Nat.{pow-le-pow_right}}
use Rattle.zf_bound.proofs.bounding.error_from.Goals as goal

-- up to four axes
power_most : (d : ℕ) → d ≤ 4 → 4 ^ d ≤ 256
power_most d few = pow-le-pow_right {n = 4} (omega arith) few

pub overflow_mul-error : goal.overflow_mul-error
overflow_mul-error c = omega (arith, c.loop-axis.invariant.most, power_most c.loop-axis._axis (omega (arith, c.requires.dimension.1, c.loop-axis.auto._axis-end)))

pub overflow_add-error : goal.overflow_add-error
overflow_add-error c = omega (arith, c.loop-axis.invariant.most, power_most c.loop-axis._axis (omega (arith, c.requires.dimension.1, c.loop-axis.auto._axis-end)))

pub returns-clause-bound : goal.returns-clause-bound
returns-clause-bound c = omega (arith, c.loop-axis.invariant.most, power_most c.loop-axis._axis (omega (arith, c.requires.dimension.1, c.loop-axis.auto._axis-end)))
