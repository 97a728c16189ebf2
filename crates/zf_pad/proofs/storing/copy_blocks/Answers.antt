use Rattle.std.proofs.Common.{rules, refl, ◌/◌, ap, ◌∙◌, arith}
use Rattle.std.{proofs.Math.Nat.{mul-le-mul_right}, specs.Int.{byte_len}}
use Rattle.zf_pad.proofs.FourLines.{line_more}
use Rattle.zf_pad.proofs.storing.copy_blocks.Goals as goal

pub put_row-requires-clause-there : goal.put_row-requires-clause-there
put_row-requires-clause-there g c = omega (arith, c.loop-b.invariant.at, c.requires.there c.loop-b.b c.loop-b-test.true)

pub overflow_add-at : goal.overflow_add-at
overflow_add-at g c = search (rules, mul-le-mul_right)

pub put_row-requires-clause-room : goal.put_row-requires-clause-room
put_row-requires-clause-room g c = omega (arith, ap (λ n. n / byte_len g.T.Lane.width) c.loop-b.auto.piece, c.requires.room, c.loop-b-test.true)

pub loop-b-preserved : goal.loop-b-preserved
loop-b-preserved g c = record {
  at = omega (arith, c.loop-b.invariant.at);
  before = λ i lt.
      c.put_row.ensures.others i (λ k small e. absurd (omega arith)) ∙ c.loop-b.invariant.before i lt;
  rows = line_more c.args.from c.args.step c.args.to _ _ _ _ _ c.loop-b.b c.loop-b.invariant.at refl
      c.put_row.ensures c.loop-b.invariant.rows;
}
