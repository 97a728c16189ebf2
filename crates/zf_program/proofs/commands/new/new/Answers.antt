use Rattle.std.proofs.Common.{[], Ok, inl, inr, refl, ◌∙◌}
use Rattle.zf_program.specs.Fetching.{Fetches}
use Rattle.zf_program.specs.declared.status.Status.TheVariants.{Done, LoadFault, SaveFault, Memory}
use Rattle.zf_program.{proofs.Statuses.{differ}, proofs.Making.{Behaves-saved, Behaves-unsaved, Behaves-starved}}
use Rattle.zf_words.specs.declared.command.Command.TheVariants.{New}
use Rattle.zf_program.proofs.Stepping.{Steps-new, Steps-unshelved, SavesOnce-none}
use Rattle.zf_program.proofs.commands.new.new.Goals as goal

pub returns-in-Ok-save-clause-behaves : goal.returns-in-Ok-save-clause-behaves
returns-in-Ok-save-clause-behaves g c = λ src out.
    let saved = rw c.as_str.ensures at c.in-Ok-save.ensures.ok in
    Behaves-saved c.args.name.now c.args.ty c.args.shape c.args.bits src out _ _ c.deref.result.now (c.deref.ensures.value ∙ c.in-Ok.ensures) saved

pub returns-in-Ok-clause-behaves : goal.returns-in-Ok-clause-behaves
returns-in-Ok-clause-behaves g c = λ src out.
    let others = rw c.as_str.ensures at c.save.ensures.others in
    Behaves-unsaved c.args.name.now c.args.ty c.args.shape c.args.bits src out _ _ others

pub returns-clause-behaves : goal.returns-clause-behaves
returns-clause-behaves g c = λ src out. Behaves-starved c.args.name.now c.args.ty c.args.shape c.args.bits src out _

pub returns-in-Ok-save-clause-steps : goal.returns-in-Ok-save-clause-steps
returns-in-Ok-save-clause-steps g c = λ out.
    Steps-new (Fetches g.F.Shelf.fronts g.F.Shelf.loads) g.F.Shelf.saves g.F.Shelf.faults c.args.name.now c.args.ty c.args.shape c.args.bits out Done _ _ c.deref.result.now (c.deref.ensures.value ∙ c.in-Ok.ensures) refl (inl refl) (differ Done LoadFault refl) (rw c.as_str.ensures at c.in-Ok-save.ensures.step) (c.save.ensures.cause.0, λ is. absurd (differ Done SaveFault refl is))

pub returns-in-Ok-clause-steps : goal.returns-in-Ok-clause-steps
returns-in-Ok-clause-steps g c = λ out.
    Steps-new (Fetches g.F.Shelf.fronts g.F.Shelf.loads) g.F.Shelf.saves g.F.Shelf.faults c.args.name.now c.args.ty c.args.shape c.args.bits out SaveFault _ _ c.deref.result.now (c.deref.ensures.value ∙ c.in-Ok.ensures) refl (inr refl) (differ SaveFault LoadFault refl) (rw c.as_str.ensures at c.in-Err-save.ensures.step) (c.in-Err-save.ensures.cause.0, λ is. c.in-Err-save.ensures.cause.1 refl)

pub returns-clause-steps : goal.returns-clause-steps
returns-clause-steps g c = λ out.
    let command = New c.args.name.now c.args.ty c.args.shape c.args.bits in
    let none = SavesOnce-none g.F.Shelf.saves g.F.Shelf.faults command (Ok []) _ out out Memory c.args.shelf.now refl in
    Steps-unshelved (Fetches g.F.Shelf.fronts g.F.Shelf.loads) g.F.Shelf.saves g.F.Shelf.faults command _ out out Memory _ _ refl (differ Memory LoadFault refl) none
