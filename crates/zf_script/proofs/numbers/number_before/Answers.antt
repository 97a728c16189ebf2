use Rattle.std.{proofs.Common.{decimal, refl, sym, ◌∙◌, arith, rules}, proofs.lemmas.Int.Digits.{digits_more}}
use Rattle.std.proofs.lemmas.List.{take_all, take_rest}
use Rattle.std.proofs.lemmas.Option.{slice_get_within, get_or_from_slice_get}
use Rattle.zf_script.proofs.Digits.{number_more, no_first}
use Rattle.zf_script.proofs.Leading.{text_of, cut_nowhere, cut_there, inside, whole, some_digit, more_inside, first_more, no_zero}
use Rattle.zf_script.proofs.numbers.number_before.Goals as goal

pub returns-in_err-first-clause-none : goal.returns-in_err-first-clause-none
returns-in_err-first-clause-none c = search (rules, some_digit, no_first)

pub returns-in_err-number-clause-none : goal.returns-in_err-number-clause-none
returns-in_err-number-clause-none c =
    let word = c.args.word.now in
    let first = get_or_from_slice_get word 0 c.in_ok-first.field-0.now 0 (sym c.in_ok-first.ensures.value) in
    rw c.from_residual-in_err-number.ensures (λ n rest small cut.
    c.in_err-number.ensures (first_more c.args.byte word n rest small cut c.in_ok-first.field-0.now (sym first)))

pub returns-then-next-byte-clause-first : goal.returns-then-next-byte-clause-first
returns-then-next-byte-clause-first c = search (rules, get_or_from_slice_get, take_rest, cut_there, text_of)

pub returns-then-first-eq-ZERO-clause-none : goal.returns-then-first-eq-ZERO-clause-none
returns-then-first-eq-ZERO-clause-none c = λ n rest small cut.
    let word = c.args.word.now in
    let at = c.loop-at in
    let first = get_or_from_slice_get word 0 c.in_ok-first.field-0.now 0 (sym c.in_ok-first.ensures.value) in
    no_zero c.args.byte word n rest small cut at.at at.auto.at
    (inside c.args.byte at.at word c.requires at.invariant.digits c.loop-at-test.true (decimal n) rest c.if-next-byte.false (whole c.args.byte word n rest small cut))
    (first ∙ c.if-first-eq-ZERO.true)

pub returns-in_err-number-2-clause-none : goal.returns-in_err-number-2-clause-none
returns-in_err-number-2-clause-none c =
    let word = c.args.word.now in
    let at = c.loop-at in
    rw c.from_residual-in_err-number-2.ensures (λ n rest small cut.
    c.in_err-number-2.ensures (more_inside c.args.byte word n rest small cut at.at at.number _
    (inside c.args.byte at.at word c.requires at.invariant.digits c.loop-at-test.true (decimal n) rest c.if-next-byte.false (whole c.args.byte word n rest small cut))
    at.invariant.number refl))

pub loop-at-preserved : goal.loop-at-preserved
loop-at-preserved c =
    let word = c.args.word.now in
    let at = c.loop-at in
    record {
      digits = digits_more 10 word at.at c.loop-at-test.true at.invariant.digits c.in_ok-number-2.ensures.0.digit;
      number = number_more word at.at at.number c.in_ok-number-2.number _ c.loop-at-test.true at.invariant.number refl c.in_ok-number-2.ensures.1;
      short = omega (arith, c.in_ok-number-2.ensures.0.short, c.in_ok-number-2.ensures.1);
      alone = λ zero. absurd (c.if-first-eq-ZERO.false zero);
    }

pub returns-clause-last : goal.returns-clause-last
returns-clause-last c = search (rules, slice_get_within, get_or_from_slice_get, take_all, cut_nowhere, text_of)
