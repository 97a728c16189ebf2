use Rattle.std.proofs.Common.{◌^◌, subst}
use Rattle.zf_cache.specs.Bodies.{IsWhole}
use Rattle.zf_cache.proofs.cache.CacheBy.relined_read.Goals as goal

pub invariant_of-self : goal.invariant_of-self
invariant_of-self g c = (c.replace.ensures.whole (4 ^ g.row.D) (subst (IsWhole c.in_ok-body.body) c.block_len.ensures.value c.in_ok-body.ensures.whole), c.self.invariant.1)
