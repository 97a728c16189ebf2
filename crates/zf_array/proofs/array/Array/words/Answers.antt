use Rattle.std.proofs.Common.{rules}
use Rattle.zf_array.proofs.Standing.{stored_now}
use Rattle.zf_array.proofs.array.Array.words.Goals as goal

pub returns : goal.returns
returns g c = let now = stored_now _ _ _ _ _ _ c.self.invariant c.args.self.now c.self.view_is in search rules
