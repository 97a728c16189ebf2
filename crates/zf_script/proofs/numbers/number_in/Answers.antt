use Rattle.std.{proofs.Common.{sym, rules}, proofs.lemmas.Option.{slice_get_within, get_or_from_slice_get}}
use Rattle.zf_script.proofs.Digits.{number_some, number_none, no_first, empty_none, zero_none}
use Rattle.zf_script.proofs.numbers.number_in.Goals as goal

pub returns-in_err-first-clause-none : goal.returns-in_err-first-clause-none
returns-in_err-first-clause-none c =
    rw c.from_residual.ensures (λ n small is. empty_none c.args.word.now n (no_first c.args.word.now (sym c.in_err-first.ensures.value)) small is)

pub returns-then-first-eq-ZERO-clause-none : goal.returns-then-first-eq-ZERO-clause-none
returns-then-first-eq-ZERO-clause-none c = search (rules, get_or_from_slice_get, zero_none)

pub returns-clause-number : goal.returns-clause-number
returns-clause-number c = search (rules, get_or_from_slice_get, slice_get_within, number_some)

pub returns-clause-none : goal.returns-clause-none
returns-clause-none c = number_none c.args.word.now c.digits_in.result c.digits_in.ensures
