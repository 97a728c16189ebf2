-- How the output of a command is handed on once its work is done.
use Rattle.std.specs.Prelude.{◌≡◌, ℕ, ◌≤◌, ◌⊎◌, [], List, Option}
use Rattle.zf_dev.specs.Faults.{Rose, IsQuiet}
use Rattle.zf_dev.specs.Sink.{Appends}
use Rattle.zf_program.specs.declared.status.Status.{Status}
use Rattle.zf_program.specs.declared.status.Status.TheVariants.{Done, Lines, WriteFault}

-- the whole work was done
abbrev pub IsDone : Status → Type 0
IsDone Done = Unit {0}
IsDone (Lines n) = Unit {0}
IsDone status = ⊥

-- the status is the same, unless the sink failed where the work was done
abbrev pub EndsSent : Status → Status → Type 0 → Type 0
EndsSent status ended Failed = (ended ≡ status) ⊎ ((ended ≡ WriteFault) × IsDone status × Failed)

-- what was written was handed on, or the sink failed; what was written stays what it was
pub record HandsOn (status ended : Status) (before now : Option (List ℕ)) (faults_before faults_now : ℕ)
    (Flushed : Type 0) : Type 0 where
  pub ends : EndsSent status ended (Rose faults_before faults_now)
  pub stays : Appends before now []
  pub kept : faults_before ≤ faults_now
  pub flushed : (IsDone ended ⊎ IsQuiet faults_before faults_now) → Flushed
