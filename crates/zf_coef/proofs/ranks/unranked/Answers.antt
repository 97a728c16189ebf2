use Rattle.std.{proofs.Common.{rules, ◌≡◌, ◌^◌, map, sym, ap, arith}, proofs.lemmas.List.{length-map}}
use Rattle.zf_coef.proofs.ByRank.{ranks_all}
use Rattle.zf_coef.proofs.ranks.unranked.Goals as goal

pub returns-then-d-eq3 : goal.returns-then-d-eq3
returns-then-d-eq3 g c =
    let new = c.unrank-then-d-eq3-3.new.block in
    let all : 64 ≡ 4 ^ c.args.d = ap (λ d. 4 ^ d) (sym c.if-d-eq3.true) in
    ranks_all c.args.d (map g.T.Lane.value new) _ (omega (arith, length-map new g.T.Lane.value))
    (λ k h. c.unrank-then-d-eq3-3.ensures k (omega arith))

pub returns-else-d-eq4 : goal.returns-else-d-eq4
returns-else-d-eq4 g c = search (rules, ranks_all, length-map)

pub returns-then-d-eq4 : goal.returns-then-d-eq4
returns-then-d-eq4 g c =
    let new = c.unrank_sixteens.new.block in
    let all : 256 ≡ 4 ^ c.args.d = ap (λ d. 4 ^ d) (sym c.if-d-eq4.true) in
    ranks_all c.args.d (map g.T.Lane.value new) _ (omega (arith, length-map new g.T.Lane.value))
    (λ k h. c.unrank_sixteens.ensures k (omega arith))
