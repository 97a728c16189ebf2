use Rattle.zf_cached.proofs.Runs.{array_setting-cached}
use Rattle.zf_cached.proofs.laws_of_runs.settings_of_arrays.Goals as goal

pub returns : goal.returns
returns c = array_setting-cached
