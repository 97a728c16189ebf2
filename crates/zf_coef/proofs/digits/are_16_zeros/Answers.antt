use Rattle.std.{proofs.Common.{◌≡◌, ◌<◌, ◌≤◌, ⊎_elim, arith, rules}, proofs.lemmas.Bool.{cases_lt}}
use Rattle.std.proofs.{lemmas.List.{get_or-map}, lemmas.Nat.{le_or_l, le_or_r}}
use Rattle.zf_coef.proofs.digits.are_16_zeros.Goals as goal

pub loop-k-preserved : goal.loop-k-preserved
loop-k-preserved g c k from h = ⊎_elim
    (λ (earlier : k < c.loop-k.k). omega (arith, c.loop-k.invariant k from earlier, le_or_l c.loop-k.any c.word-any.result))
    (λ (last : c.loop-k.k ≤ k).
    let same : k ≡ c.loop-k.k = omega arith in search (rules, get_or-map, le_or_r))
    (cases_lt k c.loop-k.k)
