use Rattle.std.proofs.Common.{◌*◌, nat_le}
use Rattle.zf_cache.proofs.Doubled.{Tried}
use Rattle.zf_cache.proofs.counts.default_lines.Given as goal

abbrev pub invariant-loop : goal.invariant-loop
invariant-loop l = Tried (λ p. nat_le l.blocks (p * p)) l.counter l.count
