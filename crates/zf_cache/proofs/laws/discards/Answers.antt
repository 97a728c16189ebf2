use Rattle.std.proofs.Common.{rules}
use Rattle.zf_cache.proofs.Steps.{discarded, empty_fits}
use Rattle.zf_cache.proofs.laws.discards.Goals as goal

pub returns : goal.returns
returns g c = search (rules, discarded, empty_fits)
