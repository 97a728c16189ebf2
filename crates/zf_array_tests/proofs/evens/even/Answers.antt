use Rattle.std.proofs.Common.{ap, ◌∙◌, ◌*ℤ◌, pos}
use Rattle.zf_spec.{specs.Numbers.{wrap}, proofs.Wrapping.{wrap_value}}
use Rattle.zf_array_tests.{specs.EvenValues.{even_below}, proofs.RoundedDown.{even_below_fits}}
use Rattle.zf_array_tests.proofs.evens.even.Goals as goal

pub returns : goal.returns
returns g c =
    let w = g.T.Lane.width in
    let v = g.T.Lane.value c.args.v in
    c.double.ensures.value ∙ ap (λ h. wrap w (pos 2 *ℤ h)) c.halve.ensures.value
    ∙ wrap_value w (even_below v) (even_below_fits w v ((g.met.T.Lane.in_range_fits v).0 c.halve.ensures.operand))
