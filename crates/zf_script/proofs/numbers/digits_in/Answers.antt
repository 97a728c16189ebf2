use Rattle.std.{proofs.Common.{◌≡◌, take, refl, ap, subst, ◌∙◌, arith}, proofs.lemmas.List.{take_all}}
use Rattle.std.{specs.Str.Parse.{AllDigits, digits_value}, proofs.lemmas.Int.Digits.{digits_more}}
use Rattle.zf_script.proofs.Digits.{digit_more, number_more}
use Rattle.zf_script.proofs.numbers.digits_in.Goals as goal

pub returns-in_err-number : goal.returns-in_err-number
returns-in_err-number c =
    let at = c.loop-byte in
    rw c.from_residual.ensures
    (λ short. c.in_err-number.ensures (digit_more c.args.word.now at.byte-index at.number _ c.loop-byte-test.true at.invariant.number refl short))

pub loop-byte-preserved : goal.loop-byte-preserved
loop-byte-preserved c =
    let at = c.loop-byte in
    record {
      digits = digits_more 10 c.args.word.now at.byte-index c.loop-byte-test.true at.invariant.digits c.in_ok-number.ensures.0.digit;
      number = number_more c.args.word.now at.byte-index at.number c.in_ok-number.number _ c.loop-byte-test.true at.invariant.number refl c.in_ok-number.ensures.1;
      short = omega (arith, c.in_ok-number.ensures.0.short, c.in_ok-number.ensures.1);
    }

pub returns : goal.returns
returns c =
    let at = c.loop-byte in
    let whole : take at.byte-index c.args.word.now ≡ c.args.word.now = take_all at.byte-index c.args.word.now (omega (arith, c.loop-byte-test.false)) in
    let number = at.invariant.number ∙ ap (digits_value 10) whole in
    (record { digits = subst (AllDigits 10) whole at.invariant.digits; short = omega (arith, number, at.invariant.short) }, number)
