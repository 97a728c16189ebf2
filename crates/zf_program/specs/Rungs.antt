-- What a command on a script promises on each rung of its way: behind the load, behind the script, and behind
-- its last line.
use Rattle.std.specs.Prelude.{◌≡◌, ◌≢◌, ℕ, ◌≤◌, ◌⊎◌, ◌&&◌, true, [], List, length, Option, Ok, is_some}
use Rattle.zf_dev.specs.Faults.{Rose, IsQuiet}
use Rattle.zf_dev.specs.Shelf.{Files, KeepsFiles}
use Rattle.zf_dev.specs.Source.{Takes, IsAtEnd}
use Rattle.zf_dev.specs.Sink.{Appends}
use Rattle.zf_dev.specs.declared.source.Source.{Ghosts as Source}
use Rattle.zf_dev.specs.declared.sink.Sink.{Ghosts as Sink}
use Rattle.zf_dev.specs.declared.shelf.Shelf.{Ghosts as Shelf}
use Rattle.zf_cached.specs.Arrays.{max_file}
use Rattle.zf_words.specs.declared.command.Command.{Command}
use Rattle.zf_program.specs.declared.status.Status.{Status}
use Rattle.zf_program.specs.declared.status.Status.TheVariants.{WriteFault, LoadFault, SaveFault}
use Rattle.zf_program.specs.World.{seen, counts}
use Rattle.zf_program.specs.Answer.{meaning, reads_on}
use Rattle.zf_program.specs.Scripts.{max_script}
use Rattle.zf_program.specs.Statuses.{is_work_done}
use Rattle.zf_program.specs.Steps.{Gave, Makes, Saving, SavesOnce}
use Rattle.zf_program.specs.Loaded.{HoldsFile}
use Rattle.zf_program.specs.Headline.{Saves, Behaves, HasCauses, StopsAtEnd, StaysExact, IsSent}

module _ {B C : Type 0} (O : Sink B) (F : Shelf C) where
  -- the file of this name that was loaded has these bytes, and the rest of the command did what the command
  -- does with it
  pub record WorksOn {A : Type 0} (S : Source A) (c : Command) (name file : List ℕ) (status : Status)
      (src src_now : A) (out out_now : B) (shelf shelf_now : C) : Type 0 where
    pub behaves : (known : Option Files) → HoldsFile known name file → KeepsFiles known (F.files shelf)
        → Behaves c status (seen (S.contents src) (O.contents out) known)
        (seen (S.contents src_now) (O.contents out_now) (F.files shelf_now))
    pub causes : HasCauses c status (counts (S.faults src) (O.faults out))
        (counts (S.faults src_now) (O.faults out_now)) (S.never_fails src) (S.never_fails src_now)
    pub stops : StopsAtEnd ((meaning c).reads status) ((meaning c).sees_end status) (S.ends_seen src) (S.ends_seen src_now)
    pub exact : StaysExact (reads_on (meaning c) status) (S.is_exact src) (S.is_exact src_now)
    pub once : length file ≤ max_file → SavesOnce F.saves F.faults c (Ok file)
        (Gave S c src src_now) (O.contents out) (O.contents out_now) status shelf shelf_now
    pub no_load : status ≢ LoadFault
    pub sent : O.is_flushed out → IsSent status (IsQuiet (O.faults out) (O.faults out_now))
        (O.is_flushed out_now)
    pub still : F.never_fails shelf → F.never_fails shelf_now
    pub sure_saves : F.always_saves shelf → (status ≢ SaveFault) × F.always_saves shelf_now

  -- the script was read to its end too, and the rest did what the command does with it
  pub record Answers (c : Command) (name file script : List ℕ) (status : Status) (out out_now : B)
      (shelf shelf_now : C) : Type 0 where
    pub behaves : (known : Option Files) (src rest : Option (List ℕ)) → HoldsFile known name file
        → KeepsFiles known (F.files shelf) → Takes src rest script → IsAtEnd rest → length script ≤ max_script
        → Behaves c status (seen src (O.contents out) known)
        (seen rest (O.contents out_now) (F.files shelf_now))
    pub causes : (src : ℕ) → HasCauses c status (counts src (O.faults out)) (counts src (O.faults out_now))
        (Unit {0}) (Unit {0})
    pub read : (meaning c).reads status ≡ true
    pub saw : (meaning c).sees_end status ≡ true
    pub once : length file ≤ max_file → length script ≤ max_script → SavesOnce F.saves F.faults c (Ok file)
        (λ bytes. bytes ≡ script) (O.contents out) (O.contents out_now) status shelf shelf_now
    pub no_load : status ≢ LoadFault
    pub sent : IsSent status (IsQuiet (O.faults out) (O.faults out_now)) (O.is_flushed out_now)
    pub still : F.never_fails shelf → F.never_fails shelf_now
    pub sure_saves : F.always_saves shelf → (status ≢ SaveFault) × F.always_saves shelf_now

  -- all lines were run, with this status: the replies were handed on and this was saved, if anything is to
  -- be, unless one of both failed
  pub record Closes (file : Option (List ℕ × List ℕ)) (status ended : Status) (out out_now : B)
      (shelf shelf_now : C) : Type 0 where
    pub ends : (ended ≡ status) ⊎ ((ended ≡ SaveFault) × (is_some file ≡ true))
        ⊎ ((ended ≡ WriteFault) × Rose (O.faults out) (O.faults out_now))
    pub saves : Saves file ended (F.files shelf) (F.files shelf_now)
    pub step : Makes (is_some file && is_work_done ended) (Saving F.saves file ended) F.faults (ended ≡ SaveFault) shelf shelf_now
    pub stays : Appends (O.contents out) (O.contents out_now) []
    pub kept : O.faults out ≤ O.faults out_now
    pub sent : IsSent ended (IsQuiet (O.faults out) (O.faults out_now)) (O.is_flushed out_now)
    pub still : F.never_fails shelf → F.never_fails shelf_now
    pub sure_saves : F.always_saves shelf → (ended ≢ SaveFault) × F.always_saves shelf_now
