use Rattle.std.proofs.Common.{rules, ℕ, ◌+◌, List, [], ◌∷◌, ◌++◌, map, take, replicate, ap, ◌∙◌, arith}
use Rattle.std.proofs.lemmas.List.{map-set, length-map, take_more_set, take_all, replicate-append-replicate}
use Rattle.zf_planes.proofs.words.clear.Goals as goal

pub loop-plane-preserved : goal.loop-plane-preserved
loop-plane-preserved g c =
    let k = c.loop-plane.plane-index in
    let zeros = replicate g.P.Plane.word_count 0 in
    let before = map g.P.Plane.words c.loop-plane.planes in
    ap (take (k + 1)) (map-set g.P.Plane.words c.loop-plane.planes k c.zero.result)
    ∙ take_more_set before k (g.P.Plane.words c.zero.result) (omega (arith, length-map c.loop-plane.planes g.P.Plane.words, c.loop-plane.auto.planes))
    ∙ ap (λ (ps : List (List ℕ)). ps ++ g.P.Plane.words c.zero.result ∷ []) c.loop-plane.invariant
    ∙ ap (λ (ws : List ℕ). replicate k zeros ++ ws ∷ []) c.zero.ensures
    ∙ replicate-append-replicate k 1 zeros

pub returns : goal.returns
returns g c = search (rules, take_all, length-map)
