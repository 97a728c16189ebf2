use Rattle.std.proofs.Common.{◌+◌, ◌*◌, ◌≤◌, ◌∙◌, arith}
use Rattle.zf_pad.proofs.FourLines.{row_more}
use Rattle.zf_pad.proofs.storing.copy_four.Goals as goal

pub loop-b-preserved : goal.loop-b-preserved
loop-b-preserved g c =
    let b = c.loop-b.b in
    let at = c.loop-b.invariant.at in
    let one = c.put_row.ensures in
    let two = c.put_row-in-loop-b.ensures in
    let three = c.put_row-in-loop-b-2.ensures in
    let four = c.put_row-in-loop-b-3.ensures in
    let room : 4 * b + 4 ≤ c.args.n = omega (arith, c.loop-b-test.true) in
    let first = row_more _ c.args.step c.args.to c.args.n b 0 _ _ _ (4 * b + 1) _ _ _ (omega arith)
    room (omega arith) (omega arith) (omega (arith, at)) (omega arith) one c.loop-b.invariant.lines in
    let second = row_more _ c.args.step c.args.to c.args.n b 1 _ _ _ (4 * b + 2) _ _ _ (omega arith)
    room (omega arith) (omega arith) (omega (arith, at)) (omega arith) two first in
    let third = row_more _ c.args.step c.args.to c.args.n b 2 _ _ _ (4 * b + 3) _ _ _ (omega arith)
    room (omega arith) (omega arith) (omega (arith, at)) (omega arith) three second in
    let fourth = row_more _ c.args.step c.args.to c.args.n b 3 _ _ _ (4 * (b + 1)) _ _ _ (omega arith)
    room (omega arith) (omega arith) (omega (arith, at)) (omega arith) four third in
    record {
      at = omega (arith, at);
      before = λ i lt. four.others i (λ k s e. absurd (omega arith))
          ∙ three.others i (λ k s e. absurd (omega arith)) ∙ two.others i (λ k s e. absurd (omega arith))
          ∙ one.others i (λ k s e. absurd (omega arith)) ∙ c.loop-b.invariant.before i lt;
      lines = fourth;
    }

pub returns-clause-rows : goal.returns-clause-rows
returns-clause-rows g c = λ j b k four lt small.
    c.loop-b.invariant.lines.each j b k four small (omega (arith, four, lt, c.loop-b-test.false))
