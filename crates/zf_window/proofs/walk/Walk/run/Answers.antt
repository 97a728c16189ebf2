use Rattle.std.proofs.Common.{◌≡◌, ◌+◌, ◌-◌, ◌<◌, sym, subst, ◌∙◌, arith, rules}
use Rattle.zf_spec.specs.Grid.{product}
use Rattle.zf_cached.specs.Windows.{LiesIn}
use Rattle.zf_window.{specs.Positions.{Walking}, specs.Places.{IsRun}}
use Rattle.zf_window.proofs.Beside.{sided, few, along_is, along_inside, first_there}
use Rattle.zf_window.proofs.Walks.{walk_inside, walk_position}
use Rattle.zf_window.proofs.walk.Walk.run.Goals as goal

pub beside-count-requires : goal.beside-count-requires
beside-count-requires c =
    walk_inside _ _ _ c.self.invariant (subst (λ (x : Walking). x.next < product x.window.size) (sym c.self.view_is) c.requires.inside)

pub map-requires : goal.map-requires
map-requires c =
    walk_inside _ _ _ c.self.invariant (subst (λ (x : Walking). x.next < product x.window.size) (sym c.self.view_is) c.requires.inside)

pub place-block-requires : goal.place-block-requires
place-block-requires c = c.map.ensures.inside c.args.shape.now (subst (λ (x : Walking). LiesIn c.args.shape.now x.window) (sym c.self.view_is) c.requires.lies)

pub overflow_sub-last : goal.overflow_sub-last
overflow_sub-last c = search (rules, sided)

pub after-self-inside-requires : goal.after-self-inside-requires
after-self-inside-requires c =
    let s = c.self.inside in
    let ns = c.args.shape.now in
    let lies = subst (λ (x : Walking). LiesIn ns x.window) (sym c.self.view_is) c.requires.lies in
    let below = subst (λ (x : Walking). x.next < product x.window.size) (sym c.self.view_is) c.requires.inside in
    let n = c.beside-count.result in
    let side = sided ns s.window s.here s.next n c.dims-dims.ensures.shape lies c.self.invariant.here_is below c.beside-count.ensures.value in
    along_inside ns s.window s.here s.next n c.dims-dims.ensures.shape lies c.self.invariant.here_is below c.beside-count.ensures.value (n - 1) (omega (arith, side.some))

pub invariant_of-self : goal.invariant_of-self
invariant_of-self c =
    let s = c.self.inside in
    let ns = c.args.shape.now in
    let lies = subst (λ (x : Walking). LiesIn ns x.window) (sym c.self.view_is) c.requires.lies in
    let below = subst (λ (x : Walking). x.next < product x.window.size) (sym c.self.view_is) c.requires.inside in
    let n = c.beside-count.result in
    let side = sided ns s.window s.here s.next n c.dims-dims.ensures.shape lies c.self.invariant.here_is below c.beside-count.ensures.value in
    let last = along_is ns s.window s.here s.next n c.dims-dims.ensures.shape lies c.self.invariant.here_is below c.beside-count.ensures.value (n - 1) (omega (arith, side.some)) in
    let same : s.next + (n - 1) + 1 ≡ s.next + n = omega (arith, side.some) in search rules

pub returns-clause-run : goal.returns-clause-run
returns-clause-run c =
    let s = c.self.inside in
    let ns = c.args.shape.now in
    let lies = subst (λ (x : Walking). LiesIn ns x.window) (sym c.self.view_is) c.requires.lies in
    let below = subst (λ (x : Walking). x.next < product x.window.size) (sym c.self.view_is) c.requires.inside in
    let n = c.beside-count.result in
    let b = c.place-block.result.0 in
    let p = c.place-block.result.1 in
    let side = sided ns s.window s.here s.next n c.dims-dims.ensures.shape lies c.self.invariant.here_is below c.beside-count.ensures.value in
    let first = first_there ns s.window s.next c.map.result b p c.dims-dims.ensures.shape lies (c.map.ensures.value ∙ walk_position s.window s.here s.next c.self.invariant below) c.place-block.ensures.at in
    subst (λ (x : Walking). IsRun ns x.window x.next (record { block = b; place = p; count = n })) c.self.view_is (record { some = side.some; beside = side.there b p first })

pub overflow_add-self : goal.overflow_add-self
overflow_add-self c = search (rules, few)
