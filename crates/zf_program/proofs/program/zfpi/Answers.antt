use Rattle.std.proofs.Common.{rules, map, string_bytes}
use Rattle.zf_program.specs.Fetching.{Fetches}
use Rattle.zf_program.{proofs.Stepping.{Steps-quiet}, proofs.Promises.{IsComplete-quiet, GivesBack-behaves}}
use Rattle.zf_program.proofs.program.zfpi.Goals as goal

pub returns : goal.returns
returns g c =
    let fulfils = c.answer-status.ensures.fulfils in
    let status = c.answer-status.result in
    record {
      usage = c.answer-status.ensures.usage;
      untouched = c.answer-status.ensures.untouched;
      command = λ d spelled. (fulfils d spelled).behaves;
      causes = λ d spelled. (fulfils d spelled).causes;
      stops = λ d spelled. (fulfils d spelled).stops;
      exact = λ d spelled. (fulfils d spelled).exact;
      steps = λ d spelled. (fulfils d spelled).steps;
      sure_shelf = c.answer-status.ensures.sure_shelf;
      sure_saves = c.answer-status.ensures.sure_saves;
      sent = c.answer-status.ensures.sent;
      back = GivesBack-behaves (map string_bytes c.args.words.now) status _ _ (λ d spelled. (fulfils d spelled).behaves);
      complete = λ quiet d spelled.
          let done = fulfils d spelled in
          IsComplete-quiet d status _ _ _ _ _ _ done.behaves done.causes quiet.src quiet.out
          (Steps-quiet (Fetches g.F.Shelf.fronts g.F.Shelf.loads) g.F.Shelf.saves g.F.Shelf.faults d _ _ _ status c.args.shelf.now c.answer-status.new.shelf done.steps quiet.shelf);
      message = search rules;
      message_sent = search rules;
    }
