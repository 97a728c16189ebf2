use Rattle.std.proofs.Common.{rules}
use Rattle.zf_block.{proofs.ReadCodes.{passes_rest}}
use Rattle.zf_block.proofs.rate.RateBlockCode.read_four.Goals as goal

pub returns : goal.returns
returns g c = rw (← c.from-bits.ensures, ← c.WIDTH-width.ensures) (search (rules, passes_rest))
