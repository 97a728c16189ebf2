use Rattle.zf_program.proofs.Rungs.{WorksOn-refused}
use Rattle.zf_program.proofs.commands.script.on_kind.Goals as goal

pub returns-in-Ok : goal.returns-in-Ok
returns-in-Ok g c = c.on_target-status.ensures c.args.access c.args.loaded.file.items c.in-Ok.ensures.stands

pub returns-in-Err : goal.returns-in-Err
returns-in-Err g c = WorksOn-refused c.args.access c.args.name.now c.args.loaded.file.items c.in-Err.status _ _ _ c.in-Err.ensures.refused
