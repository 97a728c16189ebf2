use Rattle.std.proofs.Common.{rules, sym, ◌∙◌}
use Rattle.zf_program.specs.declared.status.Status.TheVariants.{Header, NotRate}
use Rattle.zf_program.proofs.Rungs.{IsRefused-header, IsRefused-mode, WorksOn-refused}
use Rattle.zf_program.proofs.commands.script.on_file.Goals as goal

pub on_header-requires : goal.on_header-requires
on_header-requires g c = search rules

pub returns-else-may_access : goal.returns-else-may_access
returns-else-may_access g c =
    let good = rw c.deref.ensures.value at c.in-Ok.ensures.fault in
    let header = rw c.deref.ensures.value at c.in-Ok.ensures.fields in
    WorksOn-refused c.args.access c.args.name.now c.args.file.items (NotRate c.mode_number.result) _ _ _
    (IsRefused-mode c.args.access c.args.file.items c.in-Ok.header c.mode_number.result (sym good) header (sym c.may_access.ensures ∙ c.if-may_access.false) c.mode_number.ensures)

pub returns-in-Err : goal.returns-in-Err
returns-in-Err g c =
    let bad = rw c.deref.ensures.value at c.in-Err.ensures.fault in
    WorksOn-refused c.args.access c.args.name.now c.args.file.items (Header c.in-Err.fault) _ _ _ (IsRefused-header c.args.access c.args.file.items c.in-Err.fault (sym bad))
