use Rattle.std.proofs.Common.{arith, ap, ◌∙◌}
use Rattle.zf_base.{specs.Positions.{with_unused}, specs.declared.position.Pos.{Pos}}
use Rattle.zf_base.{proofs.Sizes.{grid_of_shape}, proofs.Extents.{IsExtent-of_block, used_size, extent_axes}}
use Rattle.zf_base.proofs.shape.Shape.extent.Goals as goal

pub coordinates-block-requires : goal.coordinates-block-requires
coordinates-block-requires c =
    (grid_of_shape c.args.self.now c.grid.result c.grid.ensures.shape c.grid.ensures.value).not_zero

pub overflow_mul-origin : goal.overflow_mul-origin
overflow_mul-origin c =
    let g = grid_of_shape c.args.self.now c.grid.result c.grid.ensures.shape c.grid.ensures.value in
    omega (arith, g.bound, c.requires, c.coordinates-block.ensures.bound.0)

pub overflow_mul-origin-2 : goal.overflow_mul-origin-2
overflow_mul-origin-2 c =
    let g = grid_of_shape c.args.self.now c.grid.result c.grid.ensures.shape c.grid.ensures.value in
    omega (arith, g.bound, c.requires, c.coordinates-block.ensures.bound.1.0)

pub overflow_mul-origin-3 : goal.overflow_mul-origin-3
overflow_mul-origin-3 c =
    let g = grid_of_shape c.args.self.now c.grid.result c.grid.ensures.shape c.grid.ensures.value in
    omega (arith, g.bound, c.requires, c.coordinates-block.ensures.bound.1.1.0)

pub overflow_mul-origin-4 : goal.overflow_mul-origin-4
overflow_mul-origin-4 c =
    let g = grid_of_shape c.args.self.now c.grid.result c.grid.ensures.shape c.grid.ensures.value in
    omega (arith, g.bound, c.requires, c.coordinates-block.ensures.bound.1.1.1.0)

pub returns-clause-size : goal.returns-clause-size
returns-clause-size c =
    extent_axes c.args.self.now c.args.b c.self.inside.sizes c.grid.result c.coordinates-block.result _ c.grid.ensures.shape (c.self.invariant.unused ∙ ap (with_unused 1) c.self.view_is) c.grid.ensures.value c.coordinates-block.ensures.value (cc)

pub returns-clause-extent : goal.returns-clause-extent
returns-clause-extent c =
    let size : Pos = record { x = c.extent_along.result; y = c.extent_along-2.result; z = c.extent_along-3.result; w = c.extent_along-4.result } in
    IsExtent-of_block c.args.self.now c.args.b size c.grid.ensures.shape (returns-clause-size c) _ c.requires

pub returns-clause-used_size : goal.returns-clause-used_size
returns-clause-used_size c =
    let size : Pos = record { x = c.extent_along.result; y = c.extent_along-2.result; z = c.extent_along-3.result; w = c.extent_along-4.result } in
    used_size c.args.self.now c.args.b size c.grid.ensures.shape (returns-clause-size c)
