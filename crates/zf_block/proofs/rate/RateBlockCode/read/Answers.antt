use Rattle.std.proofs.Common.{rules}
use Rattle.zf_block.proofs.ReadCodes.{passes_rest}
use Rattle.zf_block.proofs.rate.RateBlockCode.read.Goals as goal

pub returns : goal.returns
returns g c = search (rules, passes_rest)
