use Rattle.std.proofs.Common.{◌≡◌, ◌-◌, ◌*◌, ◌/◌, min, ap, arith}
use Rattle.zf_pad.proofs.StoredLines.{along_fits}
use Rattle.zf_pad.proofs.storing.along.Goals as goal

pub returns-clause-fits : goal.returns-clause-fits
returns-clause-fits c =
    let here : c.min-here.result ≡ min 4 (c.args.n - 4 * (c.args.p / 4)) = omega (arith, c.min-here.ensures) in
    omega (arith, along_fits c.args.n c.args.p c.args.inner.first c.args.inner.lines c.requires.inside, ap (λ k. k * c.args.inner.lines) here)
