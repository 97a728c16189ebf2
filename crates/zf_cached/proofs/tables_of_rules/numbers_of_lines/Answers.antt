use Rattle.std.proofs.Common.{refl}
use Rattle.zf_cached.proofs.Computing.{script_runs}
use Rattle.zf_cached.proofs.tables_of_rules.numbers_of_lines.Goals as goal

pub returns : goal.returns
unfolding script_runs
returns c = record { opened = refl; changed = refl; looked = refl; changed_in_a_look = refl }
