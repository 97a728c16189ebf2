use Rattle.std.proofs.Common.{◌∙◌, arith}
use Rattle.zf_base.proofs.Sizes.{grid_of_shape}
use Rattle.zf_base.proofs.Extents.{block_is_inside, block_number_axes, place_axes, IsAt-numbers}
use Rattle.zf_base.proofs.shape.Shape.place.Goals as goal

pub raster-block-requires-clause-inside : goal.raster-block-requires-clause-inside
raster-block-requires-clause-inside c =
    block_is_inside c.args.self.now c.args.p c.block.result c.grid.result c.grid.ensures.shape c.requires c.grid.ensures.value c.block.ensures

pub raster-block-requires-clause-fits : goal.raster-block-requires-clause-fits
raster-block-requires-clause-fits c =
    omega (arith, grid_of_shape c.args.self.now c.grid.result c.grid.ensures.shape c.grid.ensures.value)

pub returns-clause-block : goal.returns-clause-block
returns-clause-block c =
    c.raster-block.ensures ∙ block_number_axes c.args.self.now c.args.p c.block.result c.grid.result c.grid.ensures.shape c.requires c.grid.ensures.value c.block.ensures

pub returns-clause-place : goal.returns-clause-place
returns-clause-place c =
    c.raster-place.ensures ∙ place_axes c.args.self.now c.args.p c.indices.result c.grid.ensures.shape.four_at_most c.requires c.indices.ensures

pub returns-clause-at : goal.returns-clause-at
returns-clause-at c =
    IsAt-numbers c.args.self.now c.args.p c.raster-block.result c.raster-place.result c.grid.ensures.shape.four_at_most c.requires (returns-clause-block c) (returns-clause-place c)
