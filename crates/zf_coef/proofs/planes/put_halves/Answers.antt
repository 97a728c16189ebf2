use Rattle.std.{proofs.Common.{map, arith}, proofs.lemmas.List.{length-map}}
use Rattle.zf_coef.proofs.Halves.{group_of_halves, half_of_none}
use Rattle.zf_coef.proofs.planes.put_halves.Goals as goal

pub returns-then-are_low : goal.returns-then-are_low
returns-then-are_low g c =
    let words = g.P.Plane.words in
    let mid = c.put_half.new.planes in
    let new = c.put_none.new.planes in
    let high = half_of_none c.args.number 32 c.args.digits.now (map words mid) (map words new) (c.are_low.ensures c.if-are_low.true) (omega (arith, length-map new words)) c.put_none.ensures in
    group_of_halves c.args.number c.args.digits.now (map words c.args.planes.now) (map words mid) (map words new) (omega (arith, length-map mid words, length-map new words)) (omega (arith, length-map new words)) c.put_half.ensures high

pub returns-else-number-gt0 : goal.returns-else-number-gt0
returns-else-number-gt0 g c =
    let words = g.P.Plane.words in
    let mid = c.put_half.new.planes in
    let new = c.put_half-else-number-gt0.new.planes in
    group_of_halves c.args.number c.args.digits.now (map words c.args.planes.now) (map words mid) (map words new) (omega (arith, length-map mid words, length-map new words)) (omega (arith, length-map new words)) c.put_half.ensures c.put_half-else-number-gt0.ensures
