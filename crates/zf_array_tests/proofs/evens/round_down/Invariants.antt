use Rattle.std.proofs.Common.{◌≡◌, ◌++◌, map, take, drop}
use Rattle.zf_array_tests.specs.EvenValues.{even_below}
use Rattle.zf_array_tests.proofs.evens.round_down.Given as goal

-- the values so far are rounded, and the others stay
abbrev pub invariant-loop-value : goal.invariant-loop-value
invariant-loop-value g l =
    let values = map g.T.Lane.value l.initial.block in
    map g.T.Lane.value l.block ≡ map even_below (take l.value-index values) ++ drop l.value-index values
