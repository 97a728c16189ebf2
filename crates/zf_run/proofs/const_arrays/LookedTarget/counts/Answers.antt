use Rattle.zf_const.specs.Standing.{state}
use Rattle.zf_run.proofs.const_arrays.LookedTarget.counts.Goals as goal

pub returns : goal.returns
unfolding state
returns g c = c.stats.ensures
