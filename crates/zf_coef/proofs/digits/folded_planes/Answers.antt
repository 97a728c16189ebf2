use Rattle.std.{proofs.Common.{map, arith}, proofs.lemmas.List.{length-map}}
use Rattle.zf_coef.proofs.Folded.{more_eights, past_eights}
use Rattle.zf_coef.proofs.digits.folded_planes.Goals.{then-first-planes, else-first-planes}
use Rattle.zf_coef.proofs.digits.folded_planes.Goals as goal

pub loop-eight-preserved : goal.loop-eight-preserved
loop-eight-preserved g c =
    let planes = map g.P.Plane.words c.args.planes.now in
    let eight = c.loop-eight.eight in
    elim c.if-first-planes.branch [
      | then-first-planes w ↦
          rw w.words-is (more_eights c.args.number c.args.from eight w.place_of_eight.result planes w.words_from-more.result c.loop-eight.words w.put_sixteen_bits.new.words (omega arith) w.place_of_eight.ensures.value c.loop-eight.invariant
          (λ j h. w.words_from-more.ensures j h) w.put_sixteen_bits.ensures)
      | else-first-planes w ↦
          rw w.words-is (past_eights c.args.number c.args.from eight planes c.loop-eight.words (omega (arith, length-map c.args.planes.now g.P.Plane.words, w.if-first-planes.false)) c.loop-eight.invariant)
    ]
