use Rattle.std.proofs.Common.{◌≡◌, ◌≤◌, ◌-◌, ◌*◌, ◌%◌, ◌^◌, length, get_or, refl, ap, arith}
use Rattle.std.{proofs.lemmas.Bool.{leb-true}, specs.Int.{leading_zeros, w64}}
use Rattle.zf_block.{proofs.UpperPlanes.{top_has}, proofs.Widths.{width_bounds}}
use Rattle.zf_block.proofs.upper.reaches_upper.Goals as goal

pub returns-then-above-count : goal.returns-then-above-count
returns-then-above-count g c = λ t.
    let us = c.args.digits.now in
    let size = length us in
    let v = get_or us (size - 1) 0 in
    let k = c.args.count in
    let w = c.WIDTH-width.result in
    let bounds = width_bounds g.T.Lane.width g.T.Lane.WIDTH g.met.T.Lane.two_widths g.met.T.Lane.bits_of_width in
    let p = leading_zeros w64 (v * 2 ^ (64 - w) % 2 ^ 64) in
    let planes : c.from.result ≡ k - 1 - p = omega (arith, c.from.ensures) in
    let reached : c.args.bits ≤ size * c.from.result = leb-true c.args.bits (size * c.from.result) t in
    rw (← c.WIDTH-width.ensures) (top_has c.args.bits k w size v p us (omega (arith, bounds.1, c.WIDTH-width.ensures)) (omega (arith, c.requires.planes, c.WIDTH-width.ensures)) refl c.requires.some refl refl c.if-above-count.true
    (omega (arith, reached, ap (λ n. size * n) planes)))
