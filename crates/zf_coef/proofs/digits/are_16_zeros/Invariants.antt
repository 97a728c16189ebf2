use Rattle.std.proofs.Common.{ℕ, ◌<◌, ◌≤◌, map}
use Rattle.zf_coef.specs.Groups.{word_of}
use Rattle.zf_coef.proofs.digits.are_16_zeros.Given as goal

abbrev pub invariant-loop-k : goal.invariant-loop-k
invariant-loop-k g l = (k : ℕ) → l.from ≤ k → k < l.k → word_of (map g.P.Plane.words l.planes) l.number k ≤ l.any
