use Rattle.std.proofs.Common.{◌≡◌, ◌≤◌, [], length, Some, refl, sym, subst, ap, Ok, Err}
use Rattle.zf_dev.specs.Shelf.{Files}
use Rattle.zf_words.specs.declared.command.Command.TheVariants.{Bound}
use Rattle.zf_program.{specs.Opened.{array_in}, specs.Fetching.{Fetches}}
use Rattle.zf_program.{specs.Loaded.{HoldsFile}, proofs.Stepping.{Steps-once, Steps-unloaded, SavesOnce-told, Told-behaves}}
use Rattle.zf_program.{proofs.Opening.{array_in-header}, proofs.Certifying.{IsLoading-bound}}
use Rattle.zf_program.proofs.Fetching.{unfetched_undone, unfetched_unsaved, HasCauses-unfetched, Behaves-unfetched}
use Rattle.zf_program.proofs.commands.bound.bound.Goals as goal

pub returns-in-Ok-clause-behaves : goal.returns-in-Ok-clause-behaves
returns-in-Ok-clause-behaves g c = λ src.
    let known = g.F.Shelf.files c.args.shelf.now in
    c.bound_file.ensures.behaves src known _ (subst (HoldsFile known c.args.name.now) (sym c.deref.ensures.value) c.in-Ok.ensures.ok) c.fetch.ensures.files_stay

pub returns-in-Ok-clause-causes : goal.returns-in-Ok-clause-causes
returns-in-Ok-clause-causes g c = c.bound_file.ensures.causes

pub returns-in-Ok-clause-steps : goal.returns-in-Ok-clause-steps
returns-in-Ok-clause-steps g c =
    let name = c.args.name.now in
    let bytes = c.in-Ok.file.items in
    let command = Bound name c.args.most in
    let files : Files = λ other. Some bytes in
    let file = c.bound_file.ensures in
    let b = file.behaves (Some []) (Some files) (Some files) (record { held = ap Some (sym c.deref.ensures.value); size = subst (λ bs. length bs ≤ 1200000000) (sym c.deref.ensures.value) c.in-Ok.ensures.ok.size }) (λ other. refl) in
    let once = SavesOnce-told g.F.Shelf.saves g.F.Shelf.faults command (Ok bytes) _ _ _ c.bound_file.result _ refl file.shelfless
    (λ work. Told-behaves command (Ok bytes) (λ given. given ≡ []) _ _ c.bound_file.result work b (λ w starved taken. refl) refl (sym (b.exposed.files name))) in
    Steps-once (Fetches g.F.Shelf.fronts g.F.Shelf.loads) g.F.Shelf.saves g.F.Shelf.faults command _ _ _ bytes name c.bound_file.result _ _ _ refl refl c.in-Ok.ensures.step c.fetch.ensures.cause.0 file.shelfless.no_load once

pub returns-in-Err-clause-behaves : goal.returns-in-Err-clause-behaves
returns-in-Err-clause-behaves g c = λ src.
    let name = c.args.name.now in
    Behaves-unfetched (Bound name c.args.most) name array_in (IsLoading-bound name c.args.most) array_in-header c.in-Err.status src _ _ _ c.in-Err.ensures.err c.fetch.ensures.files_stay

pub returns-in-Err-clause-causes : goal.returns-in-Err-clause-causes
returns-in-Err-clause-causes g c = λ src. HasCauses-unfetched (Bound c.args.name.now c.args.most) _ _ c.in-Err.status src _ c.in-Err.ensures.err

pub returns-in-Err-clause-steps : goal.returns-in-Err-clause-steps
returns-in-Err-clause-steps g c =
    Steps-unloaded (Fetches g.F.Shelf.fronts g.F.Shelf.loads) g.F.Shelf.saves g.F.Shelf.faults (Bound c.args.name.now c.args.most) _ _ _ c.args.name.now c.in-Err.status _ _ refl refl c.in-Err.ensures.step
    (c.in-Err.ensures.cause.0, λ is. c.in-Err.ensures.cause.1 (ap Err is)) (unfetched_undone _ _ c.in-Err.status c.in-Err.ensures.err)

pub returns-in-Ok-clause-sure_shelf : goal.returns-in-Ok-clause-sure_shelf
returns-in-Ok-clause-sure_shelf g c = λ sure. (c.bound_file.ensures.shelfless.no_load, (c.fetch.ensures.sure sure).1)

pub returns-in-Err-clause-sure_shelf : goal.returns-in-Err-clause-sure_shelf
returns-in-Err-clause-sure_shelf g c = λ sure. let still = c.in-Err.ensures.sure sure in ((λ is. still.0 (ap Err is)), still.1)

pub returns-in-Ok-clause-sure_saves : goal.returns-in-Ok-clause-sure_saves
returns-in-Ok-clause-sure_saves g c = λ sure. (c.bound_file.ensures.shelfless.no_save, c.fetch.ensures.sure_saves sure)

pub returns-in-Err-clause-sure_saves : goal.returns-in-Err-clause-sure_saves
returns-in-Err-clause-sure_saves g c = λ sure. (unfetched_unsaved _ _ c.in-Err.status c.in-Err.ensures.err, c.fetch.ensures.sure_saves sure)
