use Rattle.std.proofs.Common.{◌≡◌, suc, ◌+◌, ◌-◌, ◌/◌, ap, sym, ◌∙◌, arith}
use Rattle.zf_sample.specs.Made.{halved}
use Rattle.zf_sample.proofs.values.halved.Goals as goal

pub loop-preserved : goal.loop-preserved
loop-preserved g c =
    let k = c.WIDTH-end.result / 2 - (c.loop.counter + 1) in
    let step : c.WIDTH-end.result / 2 - c.loop.counter ≡ suc k = omega arith in
    ap (halved k) c.halve-v.ensures.value ∙ (sym (ap (λ n. halved n (g.T.Lane.value c.loop.v)) step) ∙ c.loop.invariant)
