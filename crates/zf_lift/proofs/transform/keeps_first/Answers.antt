use Rattle.std.proofs.Common.{◌≡◌, pos, ◌+ℤ◌, ◌*ℤ◌, sym, ap, ◌∙◌}
use Rattle.zf_spec.{specs.Numbers.{half, floor_half}, specs.Lift.{lift_line}}
use Rattle.zf_spec.proofs.Wrapping.{wrap_value, zero_fits}
use Rattle.zf_axes.proofs.FirstAlone.{passes-first}
use Rattle.zf_lift.proofs.FirstAlone.{lift_line-same, keeps_exactly}
use Rattle.zf_lift.proofs.transform.keeps_first.Goals as goal

pub returns-clause-exactly : goal.returns-clause-exactly
returns-clause-exactly g c =
    let v = g.T.Lane.value c.args.value in
    let exactly = keeps_exactly g.T.Lane.width g.met.T.Lane.two_widths v in
    let range = g.met.T.Lane.in_range_fits (pos 2 *ℤ v) in
    let equal = g.met.T.Lane.equal_values c.halve.result c.args.value in
    let halved = c.halve.ensures.value ∙ ap floor_half c.add.ensures.value in (
      λ same. range.1 (exactly.0 (sym halved ∙ equal.0 (sym c.eq.ensures ∙ same))),
      λ inside. c.eq.ensures ∙ equal.1 (halved ∙ exactly.1 (range.0 inside)),
    )

pub returns-clause-coefficients : goal.returns-clause-coefficients
returns-clause-coefficients g c same d =
    let w = g.T.Lane.width in
    let v = g.T.Lane.value c.args.value in
    let equal = (g.met.T.Lane.equal_values c.halve.result c.args.value).0 (sym c.eq.ensures ∙ same) in
    let twice : half w (v +ℤ v) ≡ v = ap floor_half (sym c.add.ensures.value) ∙ sym c.halve.ensures.value ∙ equal in
    let none : half w (pos 0 +ℤ pos 0) ≡ pos 0 = ap floor_half (wrap_value w (pos 0) (zero_fits w)) in
    passes-first (lift_line w) v d (lift_line-same w v twice) (lift_line-same w (pos 0) none)
