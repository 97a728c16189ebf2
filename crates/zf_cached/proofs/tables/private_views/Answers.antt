use Rattle.std.proofs.Common.{refl}
use Rattle.zf_cached.proofs.Computing.{script_runs}
use Rattle.zf_cached.proofs.tables.private_views.Goals as goal

pub returns : goal.returns
unfolding script_runs
returns c = record { each = refl; too_many = refl; parts = refl; order = refl; sizes = refl; joined_at_the_end = refl; memory = refl }
