use Rattle.std.proofs.Common.{refl}
use Rattle.zf_cached.proofs.Computing.{script_runs}
use Rattle.zf_cached.proofs.tables.whole_array.Goals as goal

pub returns : goal.returns
unfolding script_runs
returns c = record { discarded = refl; unused_bits = refl; resized = refl; one_bit = refl; three_bits = refl }
