use Rattle.std.proofs.Common.{rules}
use Rattle.zf_block.proofs.ZeroPlanes.{size_some, code-zero_planes, first_bits-zeros}
use Rattle.zf_block.proofs.rate.RateBlockCode.len_of_zeros.Goals as goal

pub returns-clause-code : goal.returns-clause-code
returns-clause-code g c = search (rules, code-zero_planes, size_some, first_bits-zeros)
