use Rattle.std.proofs.Common.{refl, lit<, lit≤}
use Rattle.zf_array_tests.proofs.cache.a_cache_that_only_reads.Goals as goal

pub relined_read-requires : goal.relined_read-requires
relined_read-requires g c = (lit< tt, (c.block_read.follows.holds-at-none.1, (3, lit≤ tt, refl)))
