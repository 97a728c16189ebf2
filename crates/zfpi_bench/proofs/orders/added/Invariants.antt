use Rattle.std.proofs.Common.{◌≡◌}
use Rattle.zfpi_bench.proofs.orders.added.Given as goal

abbrev pub invariant-values : goal.invariant-values
invariant-values g l = (l.elems.array.ghost_name ≡ l.fn.elems.array.ghost_name) × (l.elems.array.now.header ≡ l.fn.elems.array.now.header)
