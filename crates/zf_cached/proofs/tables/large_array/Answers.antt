use Rattle.std.proofs.Common.{refl}
use Rattle.zf_cached.proofs.Computing.{script_runs}
use Rattle.zf_cached.proofs.tables.large_array.Goals as goal

pub returns : goal.returns
unfolding script_runs
returns c = refl
