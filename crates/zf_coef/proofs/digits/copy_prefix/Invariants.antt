use Rattle.std.proofs.Common.{◌≡◌, ℕ, ◌<◌, slice_index_or}
use Rattle.zf_coef.proofs.digits.copy_prefix.Given as goal

abbrev pub invariant-loop-r : goal.invariant-loop-r
invariant-loop-r l = (r : ℕ) → r < l.r → slice_index_or l.digits r 0 ≡ slice_index_or l.words r 0
