use Rattle.zf_cached.proofs.Runs.{run_lines-append}
use Rattle.zf_cached.proofs.laws_of_runs.lines_in_order.Goals as goal

pub returns : goal.returns
returns g c = run_lines-append
