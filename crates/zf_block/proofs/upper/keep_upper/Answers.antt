use Rattle.std.proofs.Common.{rules}
use Rattle.zf_coef.proofs.Prefixes.{prefix_set, rest_set}
use Rattle.zf_block.proofs.upper.keep_upper.Goals as goal

pub loop-r-preserved : goal.loop-r-preserved
loop-r-preserved c = search (rules, prefix_set, rest_set)
