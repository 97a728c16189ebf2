use Rattle.std.proofs.Common.{rules}
use Rattle.zf_spec.{proofs.Reach.{needed_planes-le}, proofs.PlaneDigits.{length-planes_of}}
use Rattle.zf_block.proofs.Widths.{width_bounds}
use Rattle.zf_block.proofs.reversible.write_count.Goals as goal

pub returns-clause-bits : goal.returns-clause-bits
returns-clause-bits g c = search rules

pub returns-clause-value : goal.returns-clause-value
returns-clause-value g c = search rules

pub returns-clause-within : goal.returns-clause-within
returns-clause-within g c = search (rules, width_bounds, returns-clause-value, needed_planes-le, length-planes_of)
