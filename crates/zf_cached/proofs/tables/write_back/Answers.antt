use Rattle.std.proofs.Common.{refl}
use Rattle.zf_cached.proofs.Computing.{script_runs}
use Rattle.zf_cached.proofs.tables.write_back.Goals as goal

pub returns : goal.returns
unfolding script_runs
returns c = record { flushed = refl; evicted = refl; two_lines = refl; whole_block = refl; new_lines = refl }
