use Rattle.std.proofs.Common.{◌≡◌, ℕ, ◌<◌, get_or}
use Rattle.zf_axes.proofs.filling.fill.Given as goal

-- the places so far have the value
abbrev pub invariant-loop-place : goal.invariant-loop-place
invariant-loop-place g l = (k : ℕ) → k < l.place → get_or l.block k l.value ≡ l.value
