use Rattle.std.proofs.Common.{refl}
use Rattle.zf_cached.proofs.Computing.{script_runs}
use Rattle.zf_twoway.specs.Runs.{twoway_setting, twoway_text, twoway_saved}
use Rattle.zf_twoway.proofs.tables.blocks_with_one_first_line.Goals as goal

pub returns : goal.returns
unfolding script_runs twoway_setting twoway_text twoway_saved
returns c = refl
