use Rattle.std.proofs.Common.{rules}
use Rattle.zf_block.proofs.Zeros.{alike_fewer}
use Rattle.zf_block.proofs.uncut.zeros_above.Goals as goal

pub returns : goal.returns
returns g c = rw (← c.WIDTH.ensures) (search (rules, alike_fewer))
