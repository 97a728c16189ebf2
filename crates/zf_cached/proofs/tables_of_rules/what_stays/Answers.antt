use Rattle.std.proofs.Common.{refl}
use Rattle.zf_cached.proofs.Computing.{script_runs}
use Rattle.zf_cached.proofs.tables_of_rules.what_stays.Goals as goal

pub returns : goal.returns
unfolding script_runs
returns c = record { counts = refl; values = refl; order = refl; memory = refl }
