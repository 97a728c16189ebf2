use Rattle.std.proofs.Common.{◌<◌, sym, ap, subst, ◌∙◌}
use Rattle.zf_spec.specs.Grid.{product}
use Rattle.zf_window.{specs.Positions.{Walking, raster_at}, proofs.Walks.{walk_inside, walk_position}}
use Rattle.zf_window.proofs.walk.Walk.step.Goals as goal

pub map-position-requires : goal.map-position-requires
map-position-requires c =
    walk_inside _ _ _ c.self.invariant (subst (λ (x : Walking). x.next < product x.window.size) (sym c.self.view_is) c.requires.inside)

pub after-self-inside-requires : goal.after-self-inside-requires
after-self-inside-requires c =
    walk_inside _ _ _ c.self.invariant (subst (λ (x : Walking). x.next < product x.window.size) (sym c.self.view_is) c.requires.inside)

pub returns-clause-position : goal.returns-clause-position
returns-clause-position c =
    let below = subst (λ (x : Walking). x.next < product x.window.size) (sym c.self.view_is) c.requires.inside in
    c.map-position.ensures.value ∙ walk_position _ _ _ c.self.invariant below ∙ ap (λ (x : Walking). raster_at x.window x.next) c.self.view_is
