use Rattle.std.proofs.Common.{◌≡◌, ◌+◌, ◌*◌, ◌/◌, ap, refl, ◌∙◌, arith}
use Rattle.zf_spec.specs.Numbers.{field}
use Rattle.zf_planes.{proofs.LanesAhead.{more_in_sight}, proofs.TurnedPairs.{groups_zero}}
use Rattle.zf_planes.proofs.in_lanes.lone_in_sight.Goals as goal

pub returns : goal.returns
returns c =
    let more = c.min-more.result in
    let zero = groups_zero (c.args.bits / 8) in
    let count : more + 1 ≡ 1 + more = omega arith in
    let len : 1 + 2 * (1 + more) ≡ 3 + 2 * more = omega arith in
    let lone = rw count at (more_in_sight c.args.bits c.turned_pairs.result more c.requires.first c.turned_pairs.ensures (omega (arith, zero.0)) (λ j here. zero.1 j (omega arith))) in
    record { code = lone.code ∙ ap (λ n. field n c.args.bits) len; reached = lone.reached; below = lone.below; few = omega (arith, zero.0); fits = omega arith; some = omega arith; len = omega arith; above = refl }
