use Rattle.std.proofs.Common.{rules}
use Rattle.zf_script.proofs.Lines.{value_fits, position_and_value_some, position_and_value_none}
use Rattle.zf_script.proofs.parse.position_and_value_in.Goals as goal

pub returns-in_err-value-clause-none : goal.returns-in_err-value-clause-none
returns-in_err-value-clause-none c =
    rw c.from_residual-in_err-value.ensures (position_and_value_none c.args.dims c.args.words.now c.in_ok-first.first.now c.in_ok-first.second.now c.in_ok-first.ensures.parts c.in_err-value.ensures.none)

pub returns-clause-both : goal.returns-clause-both
returns-clause-both c = search (rules, value_fits, position_and_value_some)
