use Rattle.std.proofs.Common.{sym, subst, ◌<◌, rules}
use Rattle.zf_spec.specs.Grid.{product}
use Rattle.zf_base.{specs.Positions.{IsPosition}}
use Rattle.zf_window.proofs.Raster.{position_inside, used_is}
use Rattle.zf_window.proofs.window.Window.raster_at.Goals as goal

pub map-requires : goal.map-requires
map-requires c =
    let below = subst (λ part. c.args.number < product part.size) (sym c.self.view_is) c.requires in
    subst (λ part. IsPosition part.size c.coordinates.result) c.self.view_is
    (position_inside _ _ c.coordinates.result c.args.number c.self.invariant.four_at_most c.self.invariant.unused.sizes below c.coordinates.ensures)

pub returns : goal.returns
returns c = search (rules, used_is)
