use Rattle.std.proofs.Common.{arith}
use Rattle.zf_script.proofs.Lines.{two_numbers_some, two_numbers_none}
use Rattle.zf_script.proofs.parse.two_numbers_in.Goals as goal

pub returns-in_err-place-clause-none : goal.returns-in_err-place-clause-none
returns-in_err-place-clause-none c =
    rw c.from_residual-in_err-place.ensures (two_numbers_none c.args.words.now c.in_ok-first.first.now c.in_ok-first.second.now c.in_ok-first.ensures.parts c.in_err-place.ensures.none)

pub returns-clause-both : goal.returns-clause-both
returns-clause-both c =
    two_numbers_some c.args.words.now c.in_ok-first.first.now c.in_ok-first.second.now c.in_ok-axis.axis c.in_ok-place.place c.in_ok-first.ensures.parts c.in_ok-axis.ensures.number c.in_ok-place.ensures.number (omega arith)
