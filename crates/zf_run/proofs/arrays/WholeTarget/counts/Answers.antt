use Rattle.zf_array.specs.Standing.{state}
use Rattle.zf_run.proofs.arrays.WholeTarget.counts.Goals as goal

pub returns : goal.returns
unfolding state
returns g c = c.stats.ensures
