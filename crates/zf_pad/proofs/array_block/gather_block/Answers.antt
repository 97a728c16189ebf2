use Rattle.std.proofs.Common.{rules, ◌≡◌, ℕ, ◌≤◌, ◌^◌, take, drop, map, length, [], ◌∷◌, ap, sym, subst, ◌∙◌, arith}
use Rattle.std.proofs.lemmas.List.{take-map, drop-map, length-map}
use Rattle.zf_spec.{specs.Grid.{fours, extent_of, block_of}, specs.Padding.{pad}, specs.Codes.{existing_values}}
use Rattle.zf_base.specs.Positions.{used_axes, IsExtent}
use Rattle.zf_pad.{specs.Rasters.{IsRasterBlock}, proofs.Blocks.{lies_within, padded_block, padded_same, gathered_block}}
use Rattle.zf_pad.proofs.Lines.{whole_within, line_taken}
use Rattle.zf_pad.{proofs.Sources.{pad-whole}, proofs.array_block.gather_block.Given.{Over}}
use Rattle.zf_pad.proofs.array_block.gather_block.Goals as goal
use Rattle.zf_pad.proofs.array_block.gather_block.Goals.{After-pad}

pub gather-requires : goal.gather-requires
gather-requires g c =
    let here : IsRasterBlock c.args.shape.now c.args.b c.args.layout.now c.part_of-e.result = search rules in
    let e = c.part_of-e.result in
    let Whole : ℕ → Type 0 = λ d. (d ≤ 4) × IsExtent d e × (length c.args.block.now ≡ 4 ^ d) in
    let whole = subst Whole (sym c.dims-2.ensures.value) (c.dims.ensures.shape.four_at_most, c.part_of-e.ensures.extent, c.requires.whole) in
    search (rules, lies_within)

gathered : (g : Over) (c : After-pad g) → (existing_values (extent_of c.args.shape.now c.args.b) (map g.T.Lane.value c.pad.new.block) ≡ block_of c.args.shape.now (map g.T.Lane.value c.args.values.now) c.args.b) × (map g.T.Lane.value c.pad.new.block ≡ pad (extent_of c.args.shape.now c.args.b) (block_of c.args.shape.now (map g.T.Lane.value c.args.values.now) c.args.b))
gathered g c =
    let here : IsRasterBlock c.args.shape.now c.args.b c.args.layout.now c.part_of-e.result = search rules in
    let part = c.dims-3.ensures.value in
    let sizes = ap (λ d. used_axes d c.part_of-e.result.size) part ∙ c.part_of-e.ensures.used_size in
    padded_block c.args.shape.now c.args.b (map g.T.Lane.value c.gather.new.block) (map g.T.Lane.value c.pad.new.block) _ c.dims.ensures.shape c.requires.in_array (search (rules, gathered_block)) (c.pad.ensures ∙ ap (λ es. pad es (map g.T.Lane.value c.gather.new.block)) sizes)

pub returns-clause-block : goal.returns-clause-block
returns-clause-block g c = (gathered g c.before).0

pub returns-clause-padded : goal.returns-clause-padded
returns-clause-padded g c = (gathered g c.before).1

pub take_row-requires-clause-within : goal.take_row-requires-clause-within
take_row-requires-clause-within g c =
    let here : IsRasterBlock c.args.shape.now c.args.b c.args.layout.now c.part_of-e.result = search rules in
    let one : length c.args.shape.now ≡ 1 = sym c.dims.ensures.value ∙ c.if-dims-eq1.true in
    omega (arith, whole_within _ _ _ _ one here c.if-e-eq4.true)

pub returns-then-e-eq4-clause-block : goal.returns-then-e-eq4-clause-block
returns-then-e-eq4-clause-block g c =
    let here : IsRasterBlock c.args.shape.now c.args.b c.args.layout.now c.part_of-e.result = search rules in
    let one : length c.args.shape.now ≡ 1 = sym c.dims.ensures.value ∙ c.if-dims-eq1.true in
    let value = g.T.Lane.value in
    let first = c.part_of-e.result.origin.x in
    let taken : map value c.take_row.new.block ≡ take 4 (drop first (map value c.args.values.now)) =
    ap (map value) c.take_row.ensures ∙ sym (take-map value 4 (drop first c.args.values.now)) ∙ ap (take 4) (sym (drop-map value first c.args.values.now)) in
    line_taken _ _ _ _ _ _ one (subst (λ d. IsExtent d c.part_of-e.result) one c.part_of-e.ensures.extent) here taken

pub returns-then-e-eq4-clause-padded : goal.returns-then-e-eq4-clause-padded
returns-then-e-eq4-clause-padded g c =
    let es = extent_of c.args.shape.now c.args.b in
    let new = map g.T.Lane.value c.take_row.new.block in
    let one : length c.args.shape.now ≡ 1 = sym c.dims.ensures.value ∙ c.if-dims-eq1.true in
    let sizes : es ≡ fours 1 = sym c.part_of-e.ensures.used_size ∙ ap (λ d. used_axes d c.part_of-e.result.size) one ∙ ap (λ n. n ∷ []) c.if-e-eq4.true in
    let long : length new ≡ 4 = omega (arith, length-map c.take_row.new.block g.T.Lane.value, c.take_row.auto.block, c.requires.whole, ap (λ d. 4 ^ d) one) in
    pad-whole 1 es new sizes long ∙ padded_same c.args.shape.now c.args.b new _ c.dims.ensures.shape c.requires.in_array (returns-then-e-eq4-clause-block g c)
