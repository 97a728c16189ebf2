-- The first of the list are blocks.
use Rattle.std.proofs.Common.{ℕ, ◌<◌, get_or}
use Rattle.zf_spec.specs.Grid.{blocks}
use Rattle.zfpi_c.proofs.parts.has_all.Given as goal

abbrev pub invariant-loop-k : goal.invariant-loop-k
invariant-loop-k l = (j : ℕ) → j < l.k → get_or l.list j 0 < blocks l.shape
