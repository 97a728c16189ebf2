use Rattle.std.proofs.Common.{◌≡◌, ◌*◌, ◌^◌, pos, map, take, drop, length, replicate, sym, ap, ◌∙◌, arith}
use Rattle.std.proofs.lemmas.List.{take-map, drop-map, length-map}
use Rattle.zf_spec.specs.Grid.{block_of}
use Rattle.zf_pad.{proofs.Rows.{row_block, row_ends}, proofs.array_block.is_row_of_zeros.Given.{Over}}
use Rattle.zf_pad.proofs.array_block.is_row_of_zeros.Goals as goal
use Rattle.zf_pad.proofs.array_block.is_row_of_zeros.Goals.{After-zero}

-- the block has the four values that are looked at
row_is : (g : Over) (c : After-zero g) → block_of c.args.shape.now (map g.T.Lane.value c.args.values.now) c.args.b ≡ map g.T.Lane.value (take 4 (drop (4 * c.args.b) c.args.values.now))
row_is g c =
    let value = g.T.Lane.value in
    let values = c.args.values.now in
    let one : length c.args.shape.now ≡ 1 = omega (arith, c.dims.ensures.value, c.if-dims-ne1.false) in
    row_block c.args.shape.now c.args.b c.dims.ensures.shape one c.requires.in_array (omega (arith, c.if-b-size.true, c.size.ensures)) (map value values) (length-map values value ∙ c.requires.all)
    ∙ ap (take 4) (drop-map value (4 * c.args.b) values) ∙ take-map value 4 (drop (4 * c.args.b) values)

pub returns-then-b-size-clause-zeros : goal.returns-then-b-size-clause-zeros
returns-then-b-size-clause-zeros g c are =
    let one : 1 ≡ length c.args.shape.now = omega (arith, c.dims.ensures.value, c.if-dims-ne1.false) in
    row_is g c.before ∙ c.is_row_of.ensures.0 are ∙ ap (replicate 4) c.zero.ensures.value ∙ ap (λ d. replicate (4 ^ d) (pos 0)) one

pub returns-then-b-size-clause-seen : goal.returns-then-b-size-clause-seen
returns-then-b-size-clause-seen g c one whole zeros = c.is_row_of.ensures.1 (sym (row_is g c.before) ∙ zeros ∙ ap (replicate 4) (sym c.zero.ensures.value))

pub returns-else-b-size-clause-seen : goal.returns-else-b-size-clause-seen
returns-else-b-size-clause-seen g c one whole zeros =
    let ends = row_ends c.args.shape.now c.args.b c.dims.ensures.shape one c.requires.in_array whole in absurd (omega (arith, ends))
