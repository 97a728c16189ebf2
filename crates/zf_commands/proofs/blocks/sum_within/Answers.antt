use Rattle.std.{proofs.Common.{◌≡◌, ◌∙◌, ap, map, length, arith, rules}, proofs.lemmas.List.{length-map}}
use Rattle.zf_spec.specs.Grid.{upto}
use Rattle.zf_cached.specs.Steps.{total}
use Rattle.zf_commands.specs.Sums.{value_within}
use Rattle.zf_commands.proofs.Passing.{total_more, up_to_more, up_to_less, summed_fits, summed_is}
use Rattle.zf_commands.proofs.blocks.sum_within.Goals as goal

pub overflow_add-sum : goal.overflow_add-sum
overflow_add-sum g c = search (rules, summed_fits)

pub loop-place-preserved : goal.loop-place-preserved
loop-place-preserved g c = search (rules, summed_is, total_more, up_to_more)

pub returns-clause-sum : goal.returns-clause-sum
returns-clause-sum g c =
    let value = g.T.Lane.value in
    let block = c.args.block.now in
    let f = value_within c.args.size.now (map value block) in
    let all : c.loop-place.place ≡ length (map value block) = omega (arith, length-map block value, c.loop-place-test.false) in
    c.loop-place.invariant.0 ∙ ap (λ n. total (map f (upto n))) all

pub returns-clause-bound : goal.returns-clause-bound
returns-clause-bound g c = search (rules, up_to_less)
