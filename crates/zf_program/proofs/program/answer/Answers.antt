use Rattle.std.proofs.Common.{rules, map, string_bytes}
use Rattle.zf_program.{specs.Calls.{Fulfils}, proofs.Promises.{OfCommand-one, RefusesWords-of, OnUsage-of}}
use Rattle.zf_program.proofs.program.answer.Goals as goal

pub returns-in-Ok : goal.returns-in-Ok
returns-in-Ok g c =
    let words = map string_bytes c.args.words.now in
    let status = c.do_command.result in
    let spelled = c.in-Ok.ensures.command in
    let done = c.do_command.ensures in
    record {
      usage = RefusesWords-of words status (c.in-Ok.command, spelled) done.behaves.ends;
      untouched = OnUsage-of status _ done.behaves.ends;
      fulfils = OfCommand-one words c.in-Ok.command spelled (λ d. Fulfils g.S.Source g.O.Sink g.F.Shelf d status _ _ _ _ _ _) done;
      sure_shelf = done.sure_shelf;
      sure_saves = done.sure_saves;
      sent = done.sent;
    }

pub returns-in-Err : goal.returns-in-Err
returns-in-Err g c = search rules
