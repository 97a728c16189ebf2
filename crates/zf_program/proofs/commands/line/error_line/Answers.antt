use Rattle.zf_program.proofs.commands.line.error_line.Goals as goal

pub returns-in-Lines : goal.returns-in-Lines
returns-in-Lines c = rw c.in-Lines.is c.counted.ensures
