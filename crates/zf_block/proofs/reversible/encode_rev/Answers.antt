use Rattle.std.proofs.Common.{rules}
use Rattle.zf_spec.specs.Codes.{rev}
use Rattle.zf_base.proofs.Extents.{length-used_axes}
use Rattle.zf_block.proofs.AfterReserve.{after_reserve}
use Rattle.zf_block.proofs.reversible.encode_rev.Goals as goal

pub returns-clause-ok : goal.returns-clause-ok
unfolding rev
returns-clause-ok g c = search (rules, length-used_axes, after_reserve)
