-- Faults of a command and their causes.
use Rattle.std.proofs.Common.{rules, ◌≡◌, ◌≢◌, ℕ, ◌≤◌, Bool, true, refl}
use Rattle.zf_words.specs.declared.command.Command.{Command}
use Rattle.zf_program.specs.declared.status.Status.{Status}
use Rattle.zf_program.{specs.declared.status.Status.TheVariants.{ReadFault, WriteFault}, specs.Answer.{meaning}}
use Rattle.zf_program.{specs.Faults.{load_status, take_status}, specs.Scripts.{reads_script}}
use Rattle.zf_program.{specs.World.{Counts, counts}, specs.Headline.{HasCauses, IsIdle}}
use Rattle.zf_dev.{specs.declared.faults.LoadError.{LoadError}, specs.Faults.{Rose, HasCause}}
use Rattle.zf_dev.specs.declared.faults.TakeError.{TakeError}
use Rattle.zf_dev.specs.declared.faults.LoadError.TheVariants as loading
use Rattle.zf_dev.specs.declared.faults.TakeError.TheVariants as taking

-- a command that uses no source has its causes whatever the source is sure of
pub HasCauses-sure : (c : Command) (status : Status) (before now : Counts) {Sure : Type 0} → HasCauses c status before now (Unit {0}) (Unit {0}) → HasCauses c status before now Sure Sure
HasCauses-sure c status before now causes = search rules

-- no count rose of a device, used or not
pub IsIdle-same : (used : Bool) (n : ℕ) → IsIdle used n n
IsIdle-same _ n = search rules

-- it may have been used
pub IsIdle-used : (used : Bool) (m n : ℕ) → used ≡ true → IsIdle used m n
IsIdle-used _ m n is = search rules

-- a command that came to no device but a shelf
pub HasCauses-refused : (c : Command) (status : Status) (src out : ℕ) {Sure : Type 0} → status ≢ ReadFault → status ≢ WriteFault → HasCauses c status (counts src out) (counts src out) Sure Sure
HasCauses-refused c status src out no_read no_write = search (rules, IsIdle-same)

-- a command that wrote and came to no source
pub HasCauses-wrote : (c : Command) (status : Status) (src out out_now : ℕ) → (meaning c).writes ≡ true → out ≤ out_now → status ≢ ReadFault → (status ≡ WriteFault → Rose out out_now)
    → HasCauses c status (counts src out) (counts src out_now) (Unit {0}) (Unit {0})
HasCauses-wrote c status src out out_now used kept no_read rose = search (rules, IsIdle-same, IsIdle-used)

-- its file was not loaded
pub HasCauses-unloaded : (c : Command) (e : LoadError) (src out : ℕ) {Sure : Type 0} → HasCauses c (load_status e) (counts src out) (counts src out) Sure Sure
HasCauses-unloaded c loading.Missing src out = search (rules, HasCauses-refused)
HasCauses-unloaded c e src out = search (rules, HasCauses-refused)

take_failed : (e : TakeError) → take_status e ≡ ReadFault → e ≡ taking.Failed
take_failed taking.Failed is = refl
take_failed e is = absurd (cc)

no_write_take : (e : TakeError) → take_status e ≢ WriteFault
no_write_take taking.Long is = cc
no_write_take e is = cc

pub reads_take : (e : TakeError) → reads_script (take_status e) ≡ true
reads_take taking.Long = refl
reads_take e = refl

-- its script was not read to its end
pub HasCauses-untaken : (c : Command) (e : TakeError) (src src_now out : ℕ) {Sure Still : Type 0} → (meaning c).reads (take_status e) ≡ true → HasCause (e ≡ taking.Failed) src src_now → (Sure → (e ≢ taking.Failed) × Still)
    → HasCauses c (take_status e) (counts src out) (counts src_now out) Sure Still
HasCauses-untaken c e src src_now out used cause sure = search (rules, take_failed, no_write_take, IsIdle-used, IsIdle-same)
