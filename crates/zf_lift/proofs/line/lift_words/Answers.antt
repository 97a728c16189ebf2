use Rattle.std.proofs.Common.{◌∙◌, ◌-◌, ◌^◌}
use Rattle.zf_lift.proofs.Biased.{carries-wrap, carries-add, carries-sub, carries-moved, carries-half, carries-none, carries-itself, half_wrapped}
use Rattle.zf_lift.proofs.line.lift_words.Goals as goal

pub returns : goal.returns
returns c =
    let x = carries-itself c.args.x c.ranges.x.fits in
    let y = carries-moved (2 ^ 63) (carries-itself c.args.y c.ranges.y.fits) in
    let z = carries-itself c.args.z c.ranges.z.fits in
    let w = carries-moved (2 ^ 63) (carries-itself c.args.w c.ranges.w.fits) in
    let x1 = carries-half (carries-add x w) in
    let w1 = carries-wrap (carries-sub w x1) in
    let z1 = carries-half (carries-add z y) in
    let y1 = carries-wrap (carries-sub y z1) in
    let x2 = carries-half (carries-add x1 z1) in
    let z2 = carries-sub z1 x2 in
    let w2 = carries-half (carries-add w1 y1) in
    let y2 = carries-wrap (carries-sub y1 w2) in
    let w3 = carries-add w2 (carries-half (carries-moved (2 ^ 63) y2)) in
    let y3 = carries-sub y2 (carries-half (carries-wrap w3)) in
    let first = carries-none (carries-moved (2 ^ 64 - 2 ^ 62) x2) ∙ half_wrapped _ in
    let second = carries-none (carries-moved (2 ^ 62) y3) in
    let third = carries-none z2 in
    let fourth = carries-none (carries-moved (2 ^ 63) w3) in
    cc
