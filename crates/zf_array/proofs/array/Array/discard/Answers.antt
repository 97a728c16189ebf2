use Rattle.std.proofs.Common.{refl, ap, Bool, List, length, rules}
use Rattle.zf_cached.{specs.State.{State}, specs.Changes.{discard}}
use Rattle.zf_store.specs.Stored.{code_at, format_of}
use Rattle.zf_cache.proofs.Steps.{empty_fits, discarded}
use Rattle.zf_array.proofs.Standing.{step, header_step, joined_after}
use Rattle.zf_array.proofs.array.Array.discard.Goals as goal

pub invariant_of-self : goal.invariant_of-self
invariant_of-self g c = search (rules, joined_after, empty_fits)

pub returns : goal.returns
unfolding discard
returns g c =
    let s = c.self.inside in
    let f = format_of s.store in
    let k = code_at s.store in
    let fits = empty_fits g.T.Lane.value f k c.discard.new.self (length s.cache.tags) c.discard.ensures.empty in
    let state = step _ _ _ _ _ _ c.self.invariant c.args.self.now c.self.view_is s.store c.discard.new.self refl fits (λ f u. discard f u) (discarded _ f k s.cache c.discard.new.self c.self.invariant.fits c.discard.ensures.empty c.discard.ensures.counts) in
    record { state = state; empty = λ l. ap (λ (s : State (List Bool)). s.held l) state; header = search (rules, header_step) }
