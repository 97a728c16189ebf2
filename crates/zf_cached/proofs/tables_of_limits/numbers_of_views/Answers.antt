use Rattle.std.proofs.Common.{refl}
use Rattle.zf_cached.proofs.Computing.{script_runs}
use Rattle.zf_cached.proofs.tables_of_limits.numbers_of_views.Goals as goal

pub returns : goal.returns
unfolding script_runs
returns c = record { most = refl; none = refl; lines = refl }
