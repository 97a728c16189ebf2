use Rattle.std.proofs.Common.{sym}
use Rattle.zf_words.specs.declared.command.Command.TheVariants.{Bound}
use Rattle.zf_program.specs.Opened.{array_in}
use Rattle.zf_program.{specs.declared.status.Status.TheVariants.{Header, NotRate}, proofs.Loading.{Behaves-refused}}
use Rattle.zf_program.proofs.Opening.{array_in-header, array_in-no_rate}
use Rattle.zf_program.proofs.Certifying.{IsLoading-bound, Certifies-refused}
use Rattle.zf_program.proofs.commands.bound.bound_file.Goals as goal

pub returns-in_default : goal.returns-in_default
returns-in_default g c =
    let name = c.args.name.now in
    let status = NotRate c.mode_number.result in
    let none = array_in-no_rate c.args.file.now c.in-Ok.header c.mode_number.result (sym c.in-Ok.ensures.fault) c.in-Ok.ensures.fields c.in_default.not-Rate c.mode_number.ensures in
    Certifies-refused name c.args.most c.args.file.now status _ tt (λ src known now holds kept. Behaves-refused (Bound name c.args.most) name array_in (IsLoading-bound name c.args.most) status c.args.file.now src _ known now tt none holds kept)

pub returns-in-Err : goal.returns-in-Err
returns-in-Err g c =
    let name = c.args.name.now in
    let status = Header c.in-Err.fault in
    let none = array_in-header c.args.file.now c.in-Err.fault (sym c.in-Err.ensures.fault) in
    Certifies-refused name c.args.most c.args.file.now status _ tt (λ src known now holds kept. Behaves-refused (Bound name c.args.most) name array_in (IsLoading-bound name c.args.most) status c.args.file.now src _ known now tt none holds kept)
