-- Statuses that differ. Where a proof knows much, to refute such an equation by what it knows takes long.
use Rattle.std.{proofs.Common.{◌≡◌, ℕ, false, eqb, sym, ap, ◌∙◌, eq-eqb}, proofs.lemmas.Bool.{true≢false}}
use Rattle.zf_program.specs.declared.status.Status.{Status}
use Rattle.zf_program.specs.declared.status.Status.TheVariants.{Done, ReadFault, WriteFault, LoadFault, SaveFault}

-- the faults of devices by numbers, and others together
abbrev pub mark : Status → ℕ
mark Done = 0
mark ReadFault = 1
mark WriteFault = 2
mark LoadFault = 3
mark SaveFault = 4
mark status = 5

pub differ : (s t : Status) → eqb (mark s) (mark t) ≡ false → s ≡ t → ⊥
differ s t apart same = true≢false (sym (eq-eqb (mark s) (mark t) (ap mark same)) ∙ apart)
