use Rattle.std.proofs.Common.{rules, ◌≡◌, ℕ, ◌-◌, List, ◌∷◌, map, length, replicate, set, sym, subst, arith}
use Rattle.std.proofs.lemmas.List.{length-map, map-set, length-replicate}
use Rattle.zf_spec.{specs.Planes.{planes_of}, specs.HeldPlanes.{planes_held}}
use Rattle.zf_coef.{specs.HeldDigits.{digits_in}, proofs.Prefixes.{each_long}}
use Rattle.zf_coef.{proofs.Transposed.{planes_of_groups}, proofs.first.planes_of_first.Given.{Over}}
use Rattle.zf_coef.proofs.FirstAlone.{HoldsFirst, first_none, first_more, groups_of_first, set_first}
use Rattle.zf_coef.proofs.first.planes_of_first.Goals as goal

pub loop-k-init : goal.loop-k-init
loop-k-init g c = first_none c.args.first (map g.P.Plane.words c.args.planes.now)

pub loop-k-preserved : goal.loop-k-preserved
loop-k-preserved g c = search (rules, map-set, first_more, length-map)

-- the digits
written : (g : Over) (c : goal.After-loop-k g) → set c.fill.new.self 0 c.args.first ≡ c.args.first ∷ replicate (length c.args.digits.now - 1) 0
written g c = search (rules, set_first)

pub returns-clause-digits : goal.returns-clause-digits
returns-clause-digits g c = written g c

pub returns-clause-planes : goal.returns-clause-planes
returns-clause-planes g c =
    let words = g.P.Plane.words in
    let planes = map words c.loop-k.planes in
    let first = c.args.first in
    let size = length c.args.digits.now in
    let digits = first ∷ replicate (size - 1) 0 in
    let same : length planes ≡ length c.loop-k.planes = length-map c.loop-k.planes words in
    let long : length digits ≡ size = omega (arith, length-replicate {A = ℕ} (size - 1) 0) in
    let all : c.loop-k.k ≡ length planes = omega arith in
    let Held : ℕ → List ℕ → Type 0 = λ n ds. planes_held (length ds) planes ≡ planes_of n (digits_in n ds) in
    subst (Held (length c.loop-k.planes)) (sym (written g c))
    (subst (λ n. Held n digits) same
    (planes_of_groups g.P.Plane.word_count digits planes (omega (arith, long)) (each_long words g.P.Plane.word_count g.met.P.Plane.long c.loop-k.planes)
    (groups_of_first g.P.Plane.word_count first size planes c.requires.some (omega arith) (subst (λ n. HoldsFirst first n planes) all c.loop-k.invariant))))
