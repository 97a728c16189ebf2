use Rattle.std.proofs.Common.{ap, Bool, List, rules}
use Rattle.zf_cached.{specs.State.{State}, specs.Changes.{flush, emptied}}
use Rattle.zf_array.proofs.Standing.{has_blocks, joined_after, step, header_step}
use Rattle.zf_array.proofs.array.Array.flush.Goals as goal

pub flush-requires : goal.flush-requires
flush-requires g c = search (rules, has_blocks)

pub invariant_of-self : goal.invariant_of-self
invariant_of-self g c = search (rules, joined_after)

pub returns : goal.returns
unfolding flush emptied
returns g c =
    let state = step _ _ _ _ _ _ c.self.invariant c.args.self.now c.self.view_is c.flush.new.back c.flush.new.self c.flush.ensures.step.kept c.flush.ensures.step.fits (λ f u. flush f u) c.flush.ensures.step.state in
    record { state = state; empty = λ l. ap (λ (s : State (List Bool)). s.held l) state; header = search (rules, header_step) }
