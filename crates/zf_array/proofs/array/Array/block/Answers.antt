use Rattle.std.proofs.Common.{refl, sym, ◌∙◌, Bool, List, lit<, rules}
use Rattle.zf_base.specs.Formats.{Format}
use Rattle.zf_cached.{specs.State.{State}, specs.Touch.{touch}}
use Rattle.zf_store.{specs.Stored.{code_at, format_of}, proofs.Kept.{blocks_is}}
use Rattle.zf_cache.{specs.Kept.{line_of}, proofs.Sound.{values_here}}
use Rattle.zf_array.proofs.Standing.{held_step, step, format_now, has_blocks, header_now, state_after}
use Rattle.zf_array.proofs.array.Array.block.Goals as goal

pub touch-requires : goal.touch-requires
touch-requires g c =
    let below = rw (header_now _ _ _ _ _ _ c.self.invariant c.args.self.now c.self.view_is) at c.requires in (lit< tt, search (rules, has_blocks, blocks_is))

pub returns : goal.returns
returns g c =
    let b = c.args.b in
    let t = c.touch.new.back in
    let e = c.touch.new.self in
    let given = c.touch.ensures.step in
    let is = held_step _ _ _ _ _ _ c.self.invariant c.args.self.now c.self.view_is t e given.kept given.fits (λ (f : Format (List Bool)) (u : State (List Bool)). touch f u b) given.state in
    let after = step _ _ _ _ _ _ c.self.invariant c.args.self.now c.self.view_is t e given.kept given.fits (λ (f : Format (List Bool)) (u : State (List Bool)). touch f u b) given.state in
    let same = format_now _ _ _ _ _ _ c.self.invariant c.args.self.now c.self.view_is ∙ sym given.format in
    let shown = values_here g.T.Lane.value (format_of t) e (code_at t) b (line_of e b) refl c.touch.ensures.here in
    let there = state_after _ _ _ _ _ _ c.self.invariant t e given.kept given.fits in ((refl, λ _. tt, is), search rules)
