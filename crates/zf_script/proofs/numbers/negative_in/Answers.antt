use Rattle.std.proofs.Common.{rules}
use Rattle.zf_script.proofs.Values.{minus_none, zero_only}
use Rattle.zf_script.proofs.numbers.negative_in.Goals as goal

pub returns-in_err-number-clause-none : goal.returns-in_err-number-clause-none
returns-in_err-number-clause-none c =
    rw c.from_residual.ensures (λ v small is. minus_none c.args.digits.now v small (λ n some lt. c.in_err-number.ensures.none n lt) is)

pub returns-in-0-clause-none : goal.returns-in-0-clause-none
returns-in-0-clause-none c = search (rules, minus_none, zero_only)
