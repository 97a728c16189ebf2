use Rattle.std.proofs.Common.{ap, Err}
use Rattle.zf_program.{specs.Accesses.{command_on, reading_of}, specs.Fetching.{Fetches}}
use Rattle.zf_program.{proofs.Stopping.{StopsAtEnd-same}, proofs.Stepping.{Steps-unloaded, Steps-once}}
use Rattle.zf_program.{proofs.Scripting.{IsScripted-on, loads-on, name-on}}
use Rattle.zf_program.proofs.Fetching.{unfetched_undone, unfetched_unsaved, HasCauses-unfetched, Behaves-unfetched, reading-header}
use Rattle.zf_program.proofs.commands.script.script.Goals as goal

pub returns-in-Ok : goal.returns-in-Ok
returns-in-Ok g c =
    let name = c.args.name.now in
    let command = command_on c.args.access name in
    let works = c.on_file.ensures in
    let holds = c.in-Ok.ensures.ok in
    let fetches = Fetches g.F.Shelf.fronts g.F.Shelf.loads in
    record {
      behaves = works.behaves _ holds c.fetch.ensures.files_stay;
      causes = works.causes;
      stops = works.stops;
      exact = works.exact;
      steps = Steps-once fetches g.F.Shelf.saves g.F.Shelf.faults command _ _ _ c.in-Ok.file.items name _ _ _ _ (loads-on c.args.access name) (name-on c.args.access name) c.in-Ok.ensures.step c.fetch.ensures.cause.0 works.no_load (works.once holds.size);
      sure_shelf = λ sure. let loaded = c.in-Ok.ensures.sure sure in (works.no_load, works.still loaded.1);
      sure_saves = λ sure. works.sure_saves (c.in-Ok.ensures.sure_saves sure);
      sent = works.sent;
    }

pub returns-in-Err : goal.returns-in-Err
returns-in-Err g c =
    let name = c.args.name.now in
    let command = command_on c.args.access name in
    let status = c.in-Err.status in
    let why = c.in-Err.ensures.err in
    let fetches = Fetches g.F.Shelf.fronts g.F.Shelf.loads in
    record {
      behaves = Behaves-unfetched command name (reading_of c.args.access) (IsScripted-on c.args.access name).loading (reading-header c.args.access) status _ _ _ _ why c.fetch.ensures.files_stay;
      causes = HasCauses-unfetched command _ _ status _ _ why;
      stops = StopsAtEnd-same _ _ _;
      exact = λ told exact. exact;
      steps = Steps-unloaded fetches g.F.Shelf.saves g.F.Shelf.faults command _ _ _ name status _ _ (loads-on c.args.access name) (name-on c.args.access name) c.in-Err.ensures.step
          (c.in-Err.ensures.cause.0, λ is. c.in-Err.ensures.cause.1 (ap Err is)) (unfetched_undone _ _ status why);
      sure_shelf = λ sure. let loaded = c.in-Err.ensures.sure sure in ((λ is. loaded.0 (ap Err is)), loaded.1);
      sure_saves = λ sure. (unfetched_unsaved _ _ status why, c.in-Err.ensures.sure_saves sure);
      sent = λ flushed why. flushed;
    }
