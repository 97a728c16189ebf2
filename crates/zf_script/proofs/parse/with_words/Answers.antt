use Rattle.std.{proofs.Common.{rules, arith}, specs.Int.{w128}, proofs.lemmas.Int.{to_z-of_z}}
use Rattle.zf_script.proofs.Lines.{value_fits, fill_command, lines_command, resize_command, no_fill, no_lines, no_resize, no_words}
use Rattle.zf_script.proofs.parse.with_words.Goals as goal

pub returns-in_err-value_in-in-Fill-clause-none : goal.returns-in_err-value_in-in-Fill-clause-none
returns-in_err-value_in-in-Fill-clause-none c =
    rw (c.from_residual.ensures, c.in-Fill.is) (no_fill c.args.dims c.args.rest.now c.in_err-value_in-in-Fill.ensures.none)

pub returns-in_err-number_in-in-Lines-clause-none : goal.returns-in_err-number_in-in-Lines-clause-none
returns-in_err-number_in-in-Lines-clause-none c =
    rw (c.from_residual-in_err-number_in-in-Lines.ensures, c.in-Lines.is) (no_lines c.args.dims c.args.rest.now c.in_err-number_in-in-Lines.ensures.none)

pub returns-in_err-count-in-Resize-clause-none : goal.returns-in_err-count-in-Resize-clause-none
returns-in_err-count-in-Resize-clause-none c =
    rw (c.from_residual-in_err-count-in-Resize.ensures, c.in-Resize.is) (no_resize c.args.dims c.args.rest.now c.in_err-count-in-Resize.ensures.none)

pub returns-in_ok-value_in-in-Fill-clause-command : goal.returns-in_ok-value_in-in-Fill-clause-command
returns-in_ok-value_in-in-Fill-clause-command c =
    let value = c.in_ok-value_in-in-Fill.ensures.value in
    rw (to_z-of_z w128 c.in_ok-value_in-in-Fill.field-0 (value_fits c.in_ok-value_in-in-Fill.field-0 value.0), c.in-Fill.is)
    (fill_command c.args.dims c.args.rest.now c.in_ok-value_in-in-Fill.field-0 value.0 value.1)

pub returns-in_ok-number_in-in-Lines-clause-command : goal.returns-in_ok-number_in-in-Lines-clause-command
returns-in_ok-number_in-in-Lines-clause-command c =
    rw c.in-Lines.is (lines_command c.args.dims c.args.rest.now c.in_ok-number_in-in-Lines.field-0 (omega arith) c.in_ok-number_in-in-Lines.ensures.number)

pub returns-in_ok-count-in-Resize-clause-command : goal.returns-in_ok-count-in-Resize-clause-command
returns-in_ok-count-in-Resize-clause-command c =
    rw c.in-Resize.is (resize_command c.args.dims c.args.rest.now c.in_ok-count-in-Resize.count c.in_ok-count-in-Resize.sizes c.in_ok-count-in-Resize.ensures.sizes)

pub returns-in_default : goal.returns-in_default
returns-in_default c = search (rules, no_words)
