use Rattle.zf_cache.specs.Standing.{state_at}
use Rattle.zf_run.proofs.pairs.PairTarget.counts.Goals as goal

pub returns : goal.returns
unfolding state_at
returns g c = c.stats.ensures
