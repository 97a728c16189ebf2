-- The steps of a call on the shelf, one after another, and what they, the source and the sink tell of one world.
-- A shelf says of two of its states whether a look, a load, or a save, led from the one to the other; two steps
-- are never one of these, whatever the shelf. A load here is one behind a look at the file's first bytes.
use Rattle.std.specs.Prelude.{ℕ, ◌≡◌, ◌≢◌, ◌&&◌, ◌⊎◌, Bool, true, false, List, Option, Some, None, Result, Ok, Err}
use Rattle.zf_dev.specs.Faults.{HasCause}
use Rattle.zf_dev.specs.Source.{Takes, Gives}
use Rattle.zf_dev.specs.Sink.{Appends}
use Rattle.zf_dev.specs.declared.source.Source.{Ghosts as Source}
use Rattle.zf_program.specs.declared.status.Status.{Status}
use Rattle.zf_program.specs.declared.status.Status.TheVariants.{LoadFault, SaveFault}
use Rattle.zf_words.specs.declared.command.Command.{Command}
use Rattle.zf_program.specs.Statuses.{is_work_done}
use Rattle.zf_program.specs.World.{World}
use Rattle.zf_program.specs.Answer.{meaning}

-- one step, which may fail with this fault, or none and no fault; where it failed the count rose
abbrev pub Makes : {F : Type 0} → Bool → (F → F → Type 0) → (F → ℕ) → Type 0 → F → F → Type 0
Makes true step faults fault before now = step before now × HasCause fault (faults before) (faults now)
Makes false step faults fault before now = (now ≡ before) × (fault → ⊥)

-- the save did not fail
abbrev pub is_saved : Status → Bool
is_saved SaveFault = false
is_saved status = true

-- this file was saved, under this name, and the save was answered as the status says
abbrev pub Saving : {F : Type 0} → (F → List ℕ → List ℕ → Bool → F → Type 0) → Option (List ℕ × List ℕ)
    → Status → F → F → Type 0
Saving saves None status before now = ⊥
Saving saves (Some file) status before now = saves before file.0 file.1 (is_saved status) now

-- of a command that loads: its load answered bytes, and the file has these
abbrev pub IsLoaded : Bool → Result (List ℕ) Status → Option (List ℕ) → Type 0
IsLoaded false answer file = Unit {0}
IsLoaded true (Ok bytes) file = file ≡ Some bytes
IsLoaded true (Err e) file = ⊥

-- the source says that it gave these bytes; and a command that reads to the end read to what the source says
-- is its end
pub record Gave {A : Type 0} (S : Source A) (c : Command) (src src_now : A) (bytes : List ℕ) : Type 0 where
  pub given : Gives (S.gave src) (S.gave src_now) bytes
  pub ended : (meaning c).to_end ≡ true → S.ended src_now ≡ true
  -- of a script, where it is exposed, too
  pub taken : (meaning c).loads ≡ true → Takes (S.contents src) (S.contents src_now) bytes

-- one world: its file is what the load answered, and its input what the source gave; the status, but for a
-- fault of the save, what was written and what was to be saved are those that are stated for it
pub record Told (c : Command) (answer : Result (List ℕ) Status) (given : List ℕ → Type 0)
    (out out_now : Option (List ℕ)) (status : Status) (file : Option (List ℕ × List ℕ)) : Type 0 where
  pub world : World
  pub loaded : IsLoaded (meaning c).loads answer (world.files (meaning c).name)
  pub input : given world.input
  -- the lines of the script that answered `! memory`
  pub starved : List ℕ
  pub starved_are : (meaning c).starved_are status world starved
  pub stated : (status ≡ (meaning c).status world starved) ⊎ (status ≡ SaveFault)
  pub written : Appends out out_now ((meaning c).text world starved world.input)
  pub to_save : file ≡ (meaning c).saved world starved

-- behind a load that was answered so: one save of just what is stated, where the command saves and its work
-- was done, and else none
pub record SavesOnce {F : Type 0} (saves : F → List ℕ → List ℕ → Bool → F → Type 0) (faults : F → ℕ)
    (c : Command) (answer : Result (List ℕ) Status) (given : List ℕ → Type 0)
    (out out_now : Option (List ℕ)) (status : Status) (before now : F) : Type 0 where
  pub file : Option (List ℕ × List ℕ)
  pub told : is_work_done status ≡ true → Told c answer given out out_now status file
  pub save : Makes ((meaning c).saves && is_work_done status) (Saving saves file status) faults
      (status ≡ SaveFault) before now

-- one load of the command's file, where it loads, from the shelf as it was, whose error is the status, of work that
-- was not done; then that save, to the shelf as it is; and nothing else
pub record Steps {F : Type 0} (loads : F → List ℕ → Result (List ℕ) Status → F → Type 0)
    (saves : F → List ℕ → List ℕ → Bool → F → Type 0) (faults : F → ℕ) (c : Command)
    (given : List ℕ → Type 0) (out out_now : Option (List ℕ)) (status : Status) (before now : F) : Type 0 where
  pub loaded : F
  pub answer : Result (List ℕ) Status
  pub load : Makes (meaning c).loads (λ b n. loads b (meaning c).name answer n) faults (status ≡ LoadFault)
      before loaded
  pub unloaded : (why : Status) → answer ≡ Err why → (status ≡ why) × (is_work_done why ≡ false)
  pub once : SavesOnce saves faults c answer given out out_now status loaded now

-- no fault of a shelf
pub record IsShelfless (status : Status) : Type 0 where
  pub no_load : status ≢ LoadFault
  pub no_save : status ≢ SaveFault
