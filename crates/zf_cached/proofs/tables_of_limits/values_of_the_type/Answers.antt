use Rattle.std.proofs.Common.{refl}
use Rattle.zf_cached.proofs.Computing.{script_runs}
use Rattle.zf_cached.proofs.tables_of_limits.values_of_the_type.Goals as goal

pub returns : goal.returns
unfolding script_runs
returns c = record { windows = refl; all = refl; views = refl }
