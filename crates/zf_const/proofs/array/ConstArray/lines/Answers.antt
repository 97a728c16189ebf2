use Rattle.std.proofs.Common.{sym, ap, ◌∙◌, Bool, List}
use Rattle.zf_cached.specs.State.{State}
use Rattle.zf_cache.specs.Standing.{state_at}
use Rattle.zf_const.proofs.Standing.{state_now}
use Rattle.zf_const.proofs.array.ConstArray.lines.Goals as goal

pub returns : goal.returns
unfolding state_at
returns g c =
    c.lines.ensures.count ∙ ap (λ (u : State (List Bool)). u.lines) (sym (state_now _ _ _ _ _ c.self.invariant c.args.self.now c.self.view_is))
