use Rattle.std.{proofs.lemmas.Grind.{common_steps}, proofs.Common.{◌≤◌, length, take, arith, length-append}}
use Rattle.std.proofs.lemmas.List.{length-take-le}
use Rattle.zf_dev.proofs.Taking.{Takes-append}
use Rattle.zf_dev.proofs.whole.take_pieces.Goals as goal

pub returns-then-count-left-clause-long : goal.returns-then-count-left-clause-long
returns-then-count-left-clause-long g c = λ long.
    let before = c.loop-count.bytes.items in
    let piece = c.read.new.buf in
    let count = c.in-Ok.count in
    let came = take count piece in
    let in_piece : count ≤ length piece = omega (arith, c.in-Ok.ensures.bound) in (
      _,
      omega (arith, length-append before came, length-take-le count piece in_piece, c.loop-count.invariant.within, c.if-count-left.true),
      Takes-append _ _ _ before came c.loop-count.invariant.taken c.in-Ok.ensures.taken,
    )

pub returns-then-count-left-clause-taken : goal.returns-then-count-left-clause-taken
returns-then-count-left-clause-taken g c = (_, Takes-append _ _ _ _ _ c.loop-count.invariant.taken c.in-Ok.ensures.taken)

pub returns-then-is_err-clause-taken : goal.returns-then-is_err-clause-taken
returns-then-is_err-clause-taken g c = (_, Takes-append _ _ _ _ _ c.loop-count.invariant.taken c.in-Ok.ensures.taken)

pub returns-then-is_err-clause-unchanged : goal.returns-then-is_err-clause-unchanged
returns-then-is_err-clause-unchanged g c = grind (arith, common_steps)

pub loop-count-preserved : goal.loop-count-preserved
loop-count-preserved g c = grind (arith, common_steps)
