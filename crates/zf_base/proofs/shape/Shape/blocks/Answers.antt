use Rattle.std.proofs.Common.{◌∙◌, arith}
use Rattle.zf_base.proofs.Sizes.{grid_of_shape}
use Rattle.zf_base.proofs.shape.Shape.blocks.Goals as goal

pub product-requires-clause-not_zero : goal.product-requires-clause-not_zero
product-requires-clause-not_zero c =
    (grid_of_shape c.args.self.now c.grid.result c.grid.ensures.shape c.grid.ensures.value).not_zero

pub product-requires-clause-fits : goal.product-requires-clause-fits
product-requires-clause-fits c =
    omega (arith, grid_of_shape c.args.self.now c.grid.result c.grid.ensures.shape c.grid.ensures.value)

pub returns-clause-value : goal.returns-clause-value
returns-clause-value c =
    c.product.ensures ∙ (grid_of_shape c.args.self.now c.grid.result c.grid.ensures.shape c.grid.ensures.value).count

pub returns-clause-not_zero : goal.returns-clause-not_zero
returns-clause-not_zero c =
    omega (arith, grid_of_shape c.args.self.now c.grid.result c.grid.ensures.shape c.grid.ensures.value)

pub returns-clause-bound : goal.returns-clause-bound
returns-clause-bound c =
    omega (arith, grid_of_shape c.args.self.now c.grid.result c.grid.ensures.shape c.grid.ensures.value)
