use Rattle.std.{proofs.Common.{◌+◌, ◌%◌, ◌^◌, ℕ, ap, ◌∙◌}, specs.Int.Bits.{bit_xor}}
use Rattle.std.specs.Int.{cast_unsigned}
use mir.Val.{bits}
use Rattle.zf_spec.{specs.Numbers.{field}, proofs.Negabinary.{value_of-digits}}
use Rattle.zf_coef.proofs.Mask.{field-masked, field-word}
use Rattle.zf_coef.proofs.negabinary.to_digits.Goals as goal

pub returns-clause-digits : goal.returns-clause-digits
returns-clause-digits g c =
    let w = g.T.Lane.width in
    let fits = (g.met.T.Lane.in_range_fits _).0 c.to_word.ensures.operand in
    let masked : ℕ → ℕ = λ u. bit_xor ((u + 0xaaaa_aaaa_aaaa_aaaa) % 2 ^ 64) 0xaaaa_aaaa_aaaa_aaaa in
    ap (field (bits w)) (c.to_word-2.ensures.value ∙ ap (λ v. cast_unsigned w v) c.from_word.ensures.value)
    ∙ field-word w (masked c.to_word.result)
    ∙ ap (λ u. field (bits w) (masked u)) c.to_word.ensures.value
    ∙ field-masked w g.met.T.Lane.two_widths (g.T.Lane.value c.args.v) fits

pub returns-clause-undone : goal.returns-clause-undone
returns-clause-undone g c =
    rw (returns-clause-digits g c)
    (value_of-digits g.T.Lane.width (g.T.Lane.value c.args.v)
    ((g.met.T.Lane.in_range_fits _).0 c.to_word.ensures.operand))
