use Rattle.std.{proofs.Common.{rules, ◌≡◌, ◌+◌, ◌-◌, ◌/◌, ◌%◌, ◌^◌, drop, arith}, specs.Int.Bits.{bit_and}}
use Rattle.std.{specs.Int.Count.{ones as number_ones}, proofs.lemmas.List.{length-drop}}
use Rattle.std.proofs.lemmas.List.Sums.{count_by-le-length}
use Rattle.zf_spec.{specs.HeldPlanes.{digits_held}, proofs.HeldPlanes.{length-digits_held}}
use Rattle.zf_planes.{proofs.Lengths.{ones, part_ones, ones_split}, proofs.words.ones_from.Given.{Over}}
use Rattle.zf_planes.proofs.words.ones_from.Goals as goal

-- the sum with the ones of one word more
more : (g : Over) (c : goal.After-word g)
    → c.loop-at.ones + number_ones (bit_and (c.word.result / 2 ^ (c.loop-at.at % 64)) (18446744073709551615 / 2 ^ (64 - c.min-count.result))) + ones (drop (c.loop-at.at + c.min-count.result) (digits_held c.args.size (g.P.Plane.words c.args.plane.now)))
    ≡ ones (drop c.args.n (digits_held c.args.size (g.P.Plane.words c.args.plane.now)))
more g c =
    let at = c.loop-at.at in
    let n = c.min-count.result in
    let ws = g.P.Plane.words c.args.plane.now in
    let part = part_ones c.args.size at n c.word.result ws c.word.ensures (omega (arith, c.requires.words, g.met.P.Plane.long c.args.plane.now)) (omega (arith, c.min-count.ensures)) (omega (arith, c.min-count.ensures, c.loop-at-test.true)) in
    omega (arith, c.loop-at.invariant.sum, part, ones_split at n (digits_held c.args.size ws))

pub overflow_add-ones : goal.overflow_add-ones
overflow_add-ones g c = search (rules, length-digits_held, more, count_by-le-length, length-drop)

pub loop-at-preserved : goal.loop-at-preserved
loop-at-preserved g c = record { sum = more g c; within = omega (arith, c.min-count.ensures, c.loop-at-test.true) }
