use Rattle.std.proofs.Common.{rules, ◌<◌, sym, ap, ◌∙◌, Some, length}
use Rattle.zf_script.specs.Seen.{command_of}
use Rattle.zf_commands.proofs.Lining.{line_empty, line_read, line_not_read, some_bytes, unmoved}
use Rattle.zf_commands.proofs.lines.reply_to.Goals as goal

pub returns-then-is_empty-clause-step : goal.returns-then-is_empty-clause-step
returns-then-is_empty-clause-step g c = search (rules, line_empty)

pub returns-in-Ok-clause-step : goal.returns-in-Ok-clause-step
returns-in-Ok-clause-step g c =
    let some : 0 < length c.args.line.now = some_bytes (length c.args.line.now) (sym c.is_empty.ensures ∙ c.if-is_empty.false) in
    line_read (g.A.Subject.setting (g.A.Subject.kept c.args.a.now)) (g.A.Subject.session c.args.a.now) c.args.line.now c.dims.result _ _ _ some (c.dims.ensures.value ∙ ap length c.sizes.ensures)
    (c.in-Ok.ensures.ok ∙ ap (λ n. Some (command_of n c.in-Ok.cmd)) (c.dims.ensures.value ∙ ap length c.sizes.ensures)) c.obey.ensures.step

pub returns-in-Err-clause-step : goal.returns-in-Err-clause-step
returns-in-Err-clause-step g c = search (rules, some_bytes, line_not_read)

pub returns-then-is_empty-clause-stays : goal.returns-then-is_empty-clause-stays
returns-then-is_empty-clause-stays g c = unmoved c.requires

pub returns-in-Err-clause-stays : goal.returns-in-Err-clause-stays
returns-in-Err-clause-stays g c = unmoved c.requires
