use Rattle.std.proofs.Common.{◌≡◌, ◌-◌}
use Rattle.zf_sample.specs.Made.{halved}
use Rattle.zf_sample.proofs.values.halved.Given as goal

-- what is left to halve makes what all makes
abbrev pub invariant-loop : goal.invariant-loop
invariant-loop g l = halved (l.end - l.counter) (g.T.Lane.value l.v) ≡ halved l.end (g.T.Lane.value l.fn.v)
