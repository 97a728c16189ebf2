use Rattle.std.{proofs.Common.{◌≡◌, length, map, arith}, proofs.lemmas.List.{length-map}}
use Rattle.zf_array_tests.specs.EvenValues.{even_below}
use Rattle.zf_base.proofs.Values.{numbers_more}
use Rattle.zf_array_tests.proofs.evens.round_down.Goals as goal

pub loop-value-preserved : goal.loop-value-preserved
loop-value-preserved g c =
    let value = g.T.Lane.value in
    let numbers = map value c.args.block.now in
    let same : length c.loop-value.block ≡ length numbers = omega (arith, length-map c.args.block.now value) in
    numbers_more value even_below numbers c.loop-value.block c.loop-value.value-index c.value-item.result c.even.result (omega arith) same c.loop-value.invariant c.even.ensures
