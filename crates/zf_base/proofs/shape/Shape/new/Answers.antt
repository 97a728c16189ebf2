-- The tests of the four sizes, of which the unused ones are 1, say the same of the used ones.
use Rattle.std.proofs.Common.{◌≡◌, ◌==◌, [], ◌∷◌, length, take, refl, ap, sym, ◌∙◌, arith, length-take}
use Rattle.zf_spec.specs.Grid.{product}
use Rattle.zf_base.specs.Positions.{axes}
use Rattle.zf_base.proofs.Sizes.{list_any-axes, any_above_field, field_fault, product_fields, none_above, product-axes}
use Rattle.zf_base.proofs.shape.Shape.new.Goals as goal

pub returns-then-any_above-clause-fault : goal.returns-then-any_above-clause-fault
returns-then-any_above-clause-fault c =
    let all = c.args.nx ∷ c.args.ny ∷ c.args.nz ∷ c.args.nw ∷ [] in
    let ns = take c.args.dims all in
    let dimension : c.args.dims ≡ length ns = omega (arith, length-take c.args.dims all) in
    let sizes = c.first_axes-sizes.result in
    let zero = sym (list_any-axes (λ n. n == 0) sizes ns (omega arith) c.first_axes-sizes.ensures refl) in
    let above = any_above_field sizes c.args.dims c.most_along_axis.result ns (omega arith) dimension c.first_axes-sizes.ensures c.most_along_axis.ensures in
    field_fault ns (zero ∙ sym c.any_zero.ensures ∙ c.if-any_zero.false) (above ∙ sym c.any_above.ensures ∙ c.if-any_above.true)

pub product-requires-clause-fits : goal.product-requires-clause-fits
product-requires-clause-fits c =
    let all = c.args.nx ∷ c.args.ny ∷ c.args.nz ∷ c.args.nw ∷ [] in
    let ns = take c.args.dims all in
    let dimension : c.args.dims ≡ length ns = omega (arith, length-take c.args.dims all) in
    let sizes = c.first_axes-sizes.result in
    let above = any_above_field sizes c.args.dims c.most_along_axis.result ns (omega arith) dimension c.first_axes-sizes.ensures c.most_along_axis.ensures in
    let fields = none_above _ ns (above ∙ sym c.any_above.ensures ∙ c.if-any_above.false) in
    let same = ap (λ s. product (axes s)) c.first_axes-sizes.ensures ∙ product-axes ns (omega arith) in
    omega (arith, same, product_fields ns (omega arith) (omega arith) fields)
