use Rattle.std.{proofs.Common.{◌≡◌, ◌*◌, ◌/◌, length, ap, sym, ◌∙◌, arith}, proofs.lemmas.List.{length-map}}
use Rattle.zf_axes.proofs.Strides.{line_start-member, line_start-in_group, groups_are_whole, group_inside}
use Rattle.zf_axes.proofs.LineByLine.{IsMappedBelow-line, IsMappedBelow-skip, IsMappedBelow-end}
use Rattle.zf_axes.proofs.axes.pass_by.Goals as goal

pub overflow_mul-first-in-loop-group : goal.overflow_mul-first-in-loop-group
overflow_mul-first-in-loop-group g c =
    let inside = group_inside c.args.step (length c.args.block.now) c.loop-group.group c.requires.lines.0 c.requires.lines.2 (rw c.requires.lines.1 at c.loop-group-test.true) in omega arith

pub overflow_add-start-end : goal.overflow_add-start-end
overflow_add-start-end g c =
    let inside = group_inside c.args.step (length c.args.block.now) c.loop-group.group c.requires.lines.0 c.requires.lines.2 (rw c.requires.lines.1 at c.loop-group-test.true) in omega arith

pub map_line-requires-clause-inside : goal.map_line-requires-clause-inside
map_line-requires-clause-inside g c =
    let inside = group_inside c.args.step (length c.args.block.now) c.loop-group.group c.requires.lines.0 c.requires.lines.2 (rw c.requires.lines.1 at c.loop-group-test.true) in omega arith

pub loop-start-preserved : goal.loop-start-preserved
loop-start-preserved g c =
    IsMappedBelow-line _ _ _ _ _ _ c.requires.lines.0
    (λ k small. line_start-member c.args.step c.loop-group.group c.loop-start.start k c.requires.lines.0 (omega arith) (omega arith) small)
    c.loop-start.invariant c.map_line.ensures

pub loop-group-preserved : goal.loop-group-preserved
loop-group-preserved g c =
    let step = c.args.step in
    IsMappedBelow-skip _ _ _ _ _ _ (omega arith)
    (λ p below. let early = line_start-in_group step c.loop-group.group p c.requires.lines.0 below in omega arith) c.loop-start.invariant

pub returns : goal.returns
returns g c =
    let n = length c.args.block.now in
    let step = c.args.step in
    let long = length-map c.args.block.now g.T.Lane.value in
    let all : c.loop-group.group ≡ n / step / 4 = rw (sym c.requires.lines.1) (omega arith) in
    let whole = ap (λ k. 4 * step * k) all ∙ groups_are_whole step n c.requires.lines.0 c.requires.lines.2 in
    IsMappedBelow-end _ _ _ _ _ (omega arith) c.loop-group.invariant
