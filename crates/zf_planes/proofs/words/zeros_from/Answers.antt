use Rattle.std.proofs.Common.{◌+◌, ◌-◌, ◌/◌, ◌%◌, ◌^◌, ◌*◌, ◌≤◌, length, arith}
use Rattle.std.specs.Int.{w64, trailing_zeros}
use Rattle.zf_spec.{specs.HeldPlanes.{digits_held}, proofs.HeldPlanes.{length-digits_held}}
use Rattle.zf_planes.proofs.Digits.{IsNextOne, next_one, split_at_next, within_plane}
use Rattle.zf_planes.proofs.words.zeros_from.Given.{Over}
use Rattle.zf_planes.proofs.words.zeros_from.Goals as goal

-- the word has the next one
found : (g : Over) (c : goal.Then-word-ne0 g)
    → IsNextOne (digits_held c.args.size (g.P.Plane.words c.args.plane.now)) c.args.n (c.loop-at.at + trailing_zeros w64 (c.word.result / 2 ^ (c.loop-at.at % 64)))
found g c =
    let ws = g.P.Plane.words c.args.plane.now in
    let long : c.args.size ≤ 64 * length ws = omega (arith, c.requires.words, g.met.P.Plane.long c.args.plane.now) in
    next_one c.args.size c.args.n c.loop-at.at c.word.result ws c.word.ensures long (omega (arith, c.word.type_inv)) c.requires.one c.loop-at.invariant.zeros (omega (arith, c.if-word-ne0.true))

pub returns-then-word-ne0-clause-bound : goal.returns-then-word-ne0-clause-bound
returns-then-word-ne0-clause-bound g c =
    let ws = g.P.Plane.words c.args.plane.now in
    let long : c.args.size ≤ 64 * length ws = omega (arith, c.requires.words, g.met.P.Plane.long c.args.plane.now) in
    omega (arith, (found g c).within, length-digits_held c.args.size ws long, c.loop-at.invariant.from)

pub returns-then-word-ne0-clause-split : goal.returns-then-word-ne0-clause-split
returns-then-word-ne0-clause-split g c =
    let z = trailing_zeros w64 (c.word.result / 2 ^ (c.loop-at.at % 64)) in
    split_at_next (digits_held c.args.size (g.P.Plane.words c.args.plane.now)) c.args.n (c.loop-at.at - c.args.n + z) (c.loop-at.at + z) (omega (arith, c.loop-at.invariant.from)) (found g c)

pub unreachable-requires : goal.unreachable-requires
unreachable-requires g c =
    let ws = g.P.Plane.words c.args.plane.now in
    let long : c.args.size ≤ 64 * length ws = omega (arith, c.requires.words, g.met.P.Plane.long c.args.plane.now) in
    omega (arith, within_plane (digits_held c.args.size ws) c.args.n c.loop-at.at c.requires.one c.loop-at.invariant.zeros, length-digits_held c.args.size ws long, c.loop-at-test.false)
