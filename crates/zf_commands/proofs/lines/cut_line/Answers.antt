use Rattle.std.{proofs.Common.{◌+◌, arith}, proofs.lemmas.List.{take_rest}}
use Rattle.zf_commands.proofs.Cutting.{one_line, line_and_rest}
use Rattle.zf_commands.proofs.lines.cut_line.Goals as goal

pub returns-in_err-end-clause-none : goal.returns-in_err-end-clause-none
returns-in_err-end-clause-none c =
    rw c.from_residual.ensures (one_line c.args.lines.now (λ k lt. c.in_err-end.ensures k (omega arith) lt))

pub returns-clause-parts : goal.returns-clause-parts
returns-clause-parts c =
    let first = c.in_ok-end.ensures in
    rw (take_rest _ (_ + 1)) (line_and_rest _ _ first.0.high (λ k lt. first.0.before k (omega arith) lt) first.1)
