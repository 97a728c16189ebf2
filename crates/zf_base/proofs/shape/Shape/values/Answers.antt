use Rattle.std.proofs.Common.{arith}
use Rattle.zf_base.{specs.Positions.{axes}, proofs.Sizes.{product_not_zero, sizes_not_zero}}
use Rattle.zf_base.proofs.shape.Shape.values.Goals as goal

pub returns-clause-not_zero : goal.returns-clause-not_zero
returns-clause-not_zero c =
    let s = c.self.inside.sizes in
    omega (arith, product_not_zero (axes s) (sizes_not_zero c.self.inside.dims s c.self.invariant))
