-- What `new` does: nothing is read or written, and a file is saved.
use Rattle.std.proofs.Common.{rules, ◌≡◌, ℕ, List, [], Option, Some, ◌⊎◌, inl, inr, refl, subst}
use Rattle.zf_dev.specs.Shelf.{Files, KeepsOthers, SavesFile}
use Rattle.zf_dev.proofs.Appending.{Appends-none, AppendsPrefix-none}
use Rattle.zf_base.specs.declared.lane.Ty.{Ty}
use Rattle.zf_store.specs.Stored.{file_of, zeros}
use Rattle.zf_words.specs.declared.command.Command.TheVariants.{New}
use Rattle.zf_program.specs.declared.status.Status.{Status}
use Rattle.zf_program.{specs.World.{World, seen}, specs.Answer.{cut_draft, meaning, MayFail}}
use Rattle.zf_program.specs.Headline.{IsOfCommand, Writes, Saves, Behaves}
use Rattle.zf_program.proofs.Exposed.{world_of, ExposesFiles-same, KeepsFiles-none, some_input, Takes-none}
use Rattle.zf_program.specs.declared.status.Status.TheVariants as statuses

module _ (name : List ℕ) (ty : Ty) (ns : List ℕ) (b : ℕ) where
  -- so it ended, with these files
  behaves_so : (status : Status) (src out : Option (List ℕ)) (before now : Option Files) → IsOfCommand status
      → ((w : World) → (status ≡ (meaning (New name ty ns b)).status w []) ⊎ MayFail status (New name ty ns b) w)
      → Writes status [] (cut_draft status []) out out
      → Saves (Some (name, file_of (zeros ty ns b))) status before now
      → Behaves (New name ty ns b) status (seen src out before) (seen src out now)
  behaves_so status src out before now ends stated written saved =
      let stated_so = stated (world_of (some_input src).0 before) in
      search (rules, some_input, ExposesFiles-same, Takes-none)

  pub Behaves-saved : (src out : Option (List ℕ)) (before now : Option Files) (bytes : List ℕ) → bytes ≡ file_of (zeros ty ns b) → SavesFile before now name bytes
      → Behaves (New name ty ns b) statuses.Done (seen src out before) (seen src out now)
  Behaves-saved src out before now bytes is saved =
      behaves_so statuses.Done src out before now tt (λ w. inl refl) (Appends-none out) (subst (SavesFile before now name) is saved)

  pub Behaves-unsaved : (src out : Option (List ℕ)) (before now : Option Files) → KeepsOthers before now name
      → Behaves (New name ty ns b) statuses.SaveFault (seen src out before) (seen src out now)
  Behaves-unsaved src out before now others =
      behaves_so statuses.SaveFault src out before now tt (λ w. inr tt) (Appends-none out) others

  pub Behaves-starved : (src out : Option (List ℕ)) (shelf : Option Files)
      → Behaves (New name ty ns b) statuses.Memory (seen src out shelf) (seen src out shelf)
  Behaves-starved src out shelf =
      behaves_so statuses.Memory src out shelf shelf tt (λ w. inr tt) (AppendsPrefix-none out []) (KeepsFiles-none shelf)
