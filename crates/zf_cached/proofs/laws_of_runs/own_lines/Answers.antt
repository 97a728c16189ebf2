use Rattle.zf_cached.proofs.Uncached.{direct-own}
use Rattle.zf_cached.proofs.laws_of_runs.own_lines.Goals as goal

pub returns : goal.returns
returns c = direct-own
