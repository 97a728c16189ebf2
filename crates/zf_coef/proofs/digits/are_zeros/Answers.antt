use Rattle.std.{proofs.Common.{◌≡◌, ◌<◌, ◌≤◌, ⊎_elim, arith, rules}, proofs.lemmas.Bool.{cases_lt}}
use Rattle.std.proofs.lemmas.List.{get_or-map}
use Rattle.zf_coef.proofs.digits.are_zeros.Goals as goal

pub loop-k-preserved : goal.loop-k-preserved
loop-k-preserved g c k from h = ⊎_elim
    (λ (earlier : k < c.loop-k.k). c.loop-k.invariant k from earlier)
    (λ (last : c.loop-k.k ≤ k). let same : k ≡ c.loop-k.k = omega arith in search (rules, get_or-map))
    (cases_lt k c.loop-k.k)
