use Rattle.std.proofs.Common.{ap, ◌≡◌, ◌∙◌, ◌+◌, ◌*◌, arith, rules}
use Rattle.zf_spec.specs.Grid.{blocks}
use Rattle.zf_index.{proofs.Even.{even_end}}
use Rattle.zf_index.proofs.index.Spans.even.Goals as goal

pub invariant_of-result : goal.invariant_of-result
invariant_of-result g c =
    let start = c.args.start in
    let rate = c.args.rate in
    let n = blocks c.args.h.now.shape in
    let is = c.in_ok-check_rate.ensures.ok in
    let end : start + c.blocks-2.result * c.from.result ≡ start + n * rate =
    ap (λ k. start + k * c.from.result) c.blocks-2.ensures.value ∙ ap (λ k. start + n * k) c.from.ensures in
    omega (arith, end, even_end start rate n, is.within, is.small)

pub returns-clause-ok : goal.returns-clause-ok
returns-clause-ok g c = search rules
