use Rattle.std.proofs.Common.{refl}
use Rattle.zf_cached.proofs.Computing.{script_runs}
use Rattle.zf_cached.proofs.tables_of_limits.lines_of_looks.Goals as goal

pub returns : goal.returns
unfolding script_runs
returns c = refl
