use Rattle.std.proofs.Common.{◌≡◌, ℕ, ◌%◌, ◌<◌, get_or}
use Rattle.zf_pad.proofs.storing.has_whole_blocks.Given as goal

-- the sizes so far can be divided by four
abbrev pub invariant-loop-axis : goal.invariant-loop-axis
invariant-loop-axis l = (i : ℕ) → i < l.axis → get_or l.shape i 1 % 4 ≡ 0
