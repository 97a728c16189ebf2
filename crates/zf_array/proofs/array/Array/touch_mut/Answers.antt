use Rattle.std.proofs.Common.{ap, ◌∙◌, Bool, List, lit<, rules}
use Rattle.zf_cached.{specs.State.{State}, specs.Touch.{touch_for_writing}, specs.Placing.{direct}}
use Rattle.zf_cached.proofs.Caching.{touch_for_writing-dirty}
use Rattle.zf_store.proofs.Kept.{blocks_is}
use Rattle.zf_array.{specs.Standing.{format}, proofs.Standing.{has_blocks, header_now, joined_after, step, header_step}}
use Rattle.zf_array.proofs.array.Array.touch_mut.Goals as goal

pub touch_mut-requires : goal.touch_mut-requires
touch_mut-requires g c =
    let below = rw (header_now _ _ _ _ _ _ c.self.invariant c.args.self.now c.self.view_is) at c.requires in (lit< tt, search (rules, has_blocks, blocks_is))

pub invariant_of-self : goal.invariant_of-self
invariant_of-self g c = search (rules, joined_after)

pub returns : goal.returns
returns g c =
    let state = step _ _ _ _ _ _ c.self.invariant c.args.self.now c.self.view_is c.touch_mut.new.back c.touch_mut.new.self c.touch_mut.ensures.step.kept c.touch_mut.ensures.step.fits (λ f u. touch_for_writing f u c.args.b) c.touch_mut.ensures.step.state in
    let dirty = ap (λ (u : State (List Bool)). u.dirty c.args.b) state ∙ touch_for_writing-dirty direct (format c.args.self.now) _ c.args.b in search (rules, header_step)
