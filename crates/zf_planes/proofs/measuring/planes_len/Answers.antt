use Rattle.std.proofs.Common.{rules, ◌≡◌, ℕ, ◌+◌, ◌-◌, ◌<◌, ◌≤◌, max, List, length, map, take, drop, get_or, ap, ◌∙◌, arith, length-append}
use Rattle.std.{proofs.Math.Nat.{mul-le-mul_right}}
use Rattle.zf_spec.specs.Planes.{code_from, plane_code, reach}
use Rattle.zf_spec.specs.HeldPlanes.{planes_held, digits_held}
use Rattle.zf_planes.{proofs.Lengths.{length-code_words-le}, proofs.Unpacking.{code_next}}
use Rattle.zf_planes.proofs.measuring.planes_len.Goals as goal

-- the length with one plane more
step : {A : Type 0} (words : A → List ℕ) (above prec size i : ℕ) (planes : List A) (plane : A) → plane ≡ get_or planes (length planes - 1 - i) plane → i < prec → prec ≤ length planes
    → length (code_from above (drop i (take prec (planes_held size (map words planes)))))
    ≡ length (plane_code above (digits_held size (words plane))) + length (code_from (max above (reach (digits_held size (words plane)))) (drop (i + 1) (take prec (planes_held size (map words planes)))))
step words above prec size i planes plane is below within =
    ap length (code_next words above prec size i planes plane is below within)
    ∙ length-append (plane_code above (digits_held size (words plane))) (code_from (max above (reach (digits_held size (words plane)))) (drop (i + 1) (take prec (planes_held size (map words planes)))))

pub overflow_add-len : goal.overflow_add-len
overflow_add-len g c =
    let next = step g.P.Plane.words c.loop-i.above c.args.prec c.args.size c.loop-i.i c.args.planes.now c.index-planes-planes.result c.index-planes-planes.is c.loop-i-test.true c.requires.planes in
    let few = length-code_words-le g.P.Plane.words _ c.args.prec c.args.size c.args.planes.now g.met.P.Plane.long c.requires.words c.requires.planes in search (rules, mul-le-mul_right)

pub loop-i-preserved : goal.loop-i-preserved
loop-i-preserved g c = search (rules, step)

pub returns-clause-most : goal.returns-clause-most
returns-clause-most g c =
    let few = length-code_words-le g.P.Plane.words _ c.args.prec c.args.size c.args.planes.now g.met.P.Plane.long c.requires.words c.requires.planes in
    omega (arith, c.loop-i.invariant.sum, few)
