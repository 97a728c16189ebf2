use Rattle.std.proofs.Common.{rules, ◌≡◌, ℕ, suc, ◌+◌, ◌-◌, ◌<◌, max, List, [], ◌∷◌, length, map, take, get_or, ap, arith, length-append}
use Rattle.std.{proofs.Math.Seq.{take-suc}, proofs.lemmas.List.{length-map, get_or-map}}
use Rattle.zf_spec.specs.Planes.{code, code_from, reach, plane_code, reach_of_all}
use Rattle.zf_spec.specs.HeldPlanes.{planes_held, digits_held}
use Rattle.zf_spec.proofs.HeldPlanes.{length-planes_held, get_or-planes_held}
use Rattle.zf_planes.proofs.Strings.{code_from-append, reach_of_all-append}
use Rattle.zf_planes.proofs.measuring.planes_within.Goals as goal

-- with the next plane the code has as many bits more as that plane's, and its ones reach as far as those of both
step : {A : Type 0} (words : A → List ℕ) (above size i : ℕ) (planes : List A) (plane : A) → plane ≡ get_or planes (length planes - 1 - i) plane → i < length planes
    → above ≡ reach_of_all (take i (planes_held size (map words planes)))
    → (length (code (take (i + 1) (planes_held size (map words planes)))) ≡ length (code (take i (planes_held size (map words planes)))) + length (plane_code above (digits_held size (words plane))))
    × (reach_of_all (take (i + 1) (planes_held size (map words planes))) ≡ max above (reach (digits_held size (words plane))))
step words above size i planes plane is below far =
    let ps = planes_held size (map words planes) in
    let ds = digits_held size (words plane) in
    let here : get_or ps i [] ≡ ds = search (rules, length-map, get_or-planes_held, get_or-map) in
    let place : suc i ≡ i + 1 = omega arith in
    let more = rw (here, place) at (take-suc ps i [] (omega (arith, length-planes_held size (map words planes), length-map planes words))) in
    let all : max 0 (reach_of_all (take i ps)) ≡ above = omega (arith, far) in
    let joined = rw all at (code_from-append 0 (take i ps) (ds ∷ [])) in
    let both = length-append (code (take i ps)) (code_from above (ds ∷ [])) in
    let one = length-append (plane_code above ds) [] in (
      omega (arith, ap (λ qs. length (code qs)) more, ap length joined),
      omega (arith, ap reach_of_all more, reach_of_all-append (take i ps) (ds ∷ [])),
    )

pub returns-then-left-len-clause-no_more : goal.returns-then-left-len-clause-no_more
returns-then-left-len-clause-no_more g c below = search (rules, step)

pub loop-i-preserved : goal.loop-i-preserved
loop-i-preserved g c =
    let next = step g.P.Plane.words c.loop-i.above c.args.size c.loop-i.i c.args.planes.now c.index-planes-planes.result c.index-planes-planes.is c.loop-i-test.true c.loop-i.invariant.above in
    search rules
