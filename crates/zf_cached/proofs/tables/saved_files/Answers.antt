use Rattle.std.proofs.Common.{refl}
use Rattle.zf_cached.proofs.Computing.{script_runs}
use Rattle.zf_cached.proofs.tables.saved_files.Goals as goal

pub returns : goal.returns
unfolding script_runs
returns c = record { written = refl; discarded = refl; unused_bits = refl; resized = refl; one_bit = refl; three_bits = refl }
