use Rattle.std.proofs.Common.{◌≡◌, ◌*◌, map, take, replicate}
use Rattle.zf_block.proofs.coefficients.is_all.Given as goal

-- the values of the rows so far are this one
abbrev pub invariant-loop-row : goal.invariant-loop-row
invariant-loop-row g l = map g.T.Lane.value (take (4 * l.row) l.values) ≡ replicate (4 * l.row) (g.T.Lane.value l.value)
