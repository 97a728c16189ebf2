use Rattle.std.proofs.Common.{◌≡◌, ◌-◌, ◌*◌, ◌%◌, ◌^◌, ◌≤◌, length, arith}
use Rattle.std.specs.Int.{w64, leading_zeros}
use Rattle.zf_spec.{specs.Planes.{reach}, specs.HeldPlanes.{digits_held}}
use Rattle.zf_planes.proofs.Digits.{reach_in_word}
use Rattle.zf_planes.proofs.words.reach_in.Given.{Over}
use Rattle.zf_planes.proofs.words.reach_in.Goals as goal

reached : (g : Over) (c : goal.Then-word-ne0 g) → (leading_zeros w64 (c.word.result * 2 ^ (63 - (c.loop-end.end - 1) % 64) % 2 ^ 64) ≤ c.loop-end.end)
    × (c.loop-end.end - leading_zeros w64 (c.word.result * 2 ^ (63 - (c.loop-end.end - 1) % 64) % 2 ^ 64) ≡ reach (digits_held c.args.size (g.P.Plane.words c.args.plane.now)))
reached g c =
    let ws = g.P.Plane.words c.args.plane.now in
    let long : c.args.size ≤ 64 * length ws = omega (arith, c.requires.words, g.met.P.Plane.long c.args.plane.now) in
    reach_in_word c.args.size c.loop-end.end c.word.result ws c.loop-end-test.true c.loop-end.invariant.within c.word.ensures long c.loop-end.invariant.zeros (omega (arith, c.if-word-ne0.true)) (omega arith)

pub overflow_sub-result : goal.overflow_sub-result
overflow_sub-result g c = (reached g c).0

pub returns-then-word-ne0-clause-value : goal.returns-then-word-ne0-clause-value
returns-then-word-ne0-clause-value g c = (reached g c).1
