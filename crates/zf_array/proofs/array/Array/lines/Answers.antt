use Rattle.std.proofs.Common.{rules}
use Rattle.zf_cache.specs.Standing.{state_at}
use Rattle.zf_array.proofs.Standing.{state_now}
use Rattle.zf_array.proofs.array.Array.lines.Goals as goal

pub returns : goal.returns
unfolding state_at
returns g c = let now = state_now _ _ _ _ _ _ c.self.invariant c.args.self.now c.self.view_is in search rules
