use Rattle.std.proofs.Common.{◌<◌, length, arith, rules}
use Rattle.std.proofs.Math.Nat.{div-add-mod, lt_of_mul-lt-mul_left}
use Rattle.zf_index.{specs.Spans.{index_of}, proofs.Places.{ends_within}}
use Rattle.zf_index.proofs.index.listed_span.Goals as goal

pub loop-code-init : goal.loop-code-init
loop-code-init c = search (rules, lt_of_mul-lt-mul_left, div-add-mod)

pub overflow_add-at : goal.overflow_add-at
overflow_add-at c =
    let i = index_of c.args.places.now c.args.lens.now in
    let below : c.loop-code.code < length c.args.lens.now = omega (arith, c.requires.below, c.loop-code-test.true) in
    omega (arith, ends_within i c.loop-code.code (length c.args.lens.now) below, c.from-at.ensures, c.loop-code.invariant, c.requires.kept.within)

pub loop-code-preserved : goal.loop-code-preserved
loop-code-preserved c = search rules

pub returns : goal.returns
returns c = search rules
