use Rattle.zf_cached.proofs.Passes.{pass-misses}
use Rattle.zf_cached.proofs.laws_of_touches.passes_over_all_blocks.Goals as goal

pub returns : goal.returns
returns g c = pass-misses
