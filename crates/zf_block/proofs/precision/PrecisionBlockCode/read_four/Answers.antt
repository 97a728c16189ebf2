use Rattle.std.proofs.Common.{rules}
use Rattle.zf_block.specs.ReadBlocks.{prec_planes, prec_len}
use Rattle.zf_block.proofs.precision.PrecisionBlockCode.read_four.Goals as goal

pub returns : goal.returns
unfolding prec_len prec_planes
returns g c = search rules
