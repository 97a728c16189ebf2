use Rattle.std.proofs.Common.{refl}
use Rattle.zf_cached.proofs.Computing.{script_runs}
use Rattle.zf_twoway.specs.Runs.{twoway_setting, twoway_text, twoway_saved}
use Rattle.zf_twoway.proofs.tables.first_of_two_alike.Goals as goal

pub returns : goal.returns
unfolding script_runs twoway_setting twoway_text twoway_saved
returns c = record { empty = refl; clean = refl }
