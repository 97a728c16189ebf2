-- What a command did to the devices that it was given.
use Rattle.std.specs.Prelude.{◌≡◌, ◌≢◌, ℕ, true, List, [], Option, None, Ok}
use Rattle.zf_dev.specs.Faults.{IsQuiet}
use Rattle.zf_dev.specs.Shelf.{Files, KeepsFiles}
use Rattle.zf_dev.specs.declared.source.Source.{Ghosts as Source}
use Rattle.zf_dev.specs.declared.sink.Sink.{Ghosts as Sink}
use Rattle.zf_dev.specs.declared.shelf.Shelf.{Ghosts as Shelf}
use Rattle.zf_words.specs.declared.command.Command.{Command}
use Rattle.zf_words.specs.declared.command.Command.TheVariants.{Bound}
use Rattle.zf_program.specs.declared.status.Status.{Status}
use Rattle.zf_program.specs.declared.status.Status.TheVariants.{LoadFault, SaveFault}
use Rattle.zf_program.specs.Statuses.{is_work_done}
use Rattle.zf_program.specs.World.{seen, counts}
use Rattle.zf_program.specs.Answer.{meaning, reads_on}
use Rattle.zf_program.specs.Steps.{Gave, Told, Steps, IsShelfless}
use Rattle.zf_program.specs.Fetching.{Fetches}
use Rattle.zf_program.specs.Loaded.{HoldsFile}
use Rattle.zf_program.specs.Headline.{OfCommand, OnUsage, RefusesWords, Behaves, HasCauses, StopsAtEnd, StaysExact, IsSent}

-- over a source and a sink alone: what it did, whatever the files are, what its faults come from, that nothing
-- was read behind the end that was seen, or ahead, and what is told of it
pub record Streams {A B : Type 0} (S : Source A) (O : Sink B) (c : Command) (status : Status)
    (src src_now : A) (out out_now : B) : Type 0 where
  pub behaves : (files : Option Files) → Behaves c status (seen (S.contents src) (O.contents out) files)
      (seen (S.contents src_now) (O.contents out_now) files)
  pub causes : HasCauses c status (counts (S.faults src) (O.faults out))
      (counts (S.faults src_now) (O.faults out_now)) (S.never_fails src) (S.never_fails src_now)
  pub stops : StopsAtEnd ((meaning c).reads status) ((meaning c).sees_end status) (S.ends_seen src) (S.ends_seen src_now)
  pub exact : StaysExact (reads_on (meaning c) status) (S.is_exact src) (S.is_exact src_now)
  pub told : is_work_done status ≡ true → Told c (Ok []) (Gave S c src src_now)
      (O.contents out) (O.contents out_now) status None

-- over all devices: the same, what it did to the shelf, step by step, that a shelf which never fails to load, or
-- to save, still never does, and that all was handed on
pub record Fulfils {A B C : Type 0} (S : Source A) (O : Sink B) (F : Shelf C) (c : Command) (status : Status)
    (src src_now : A) (out out_now : B) (shelf shelf_now : C) : Type 0 where
  pub behaves : Behaves c status (seen (S.contents src) (O.contents out) (F.files shelf))
      (seen (S.contents src_now) (O.contents out_now) (F.files shelf_now))
  pub causes : HasCauses c status (counts (S.faults src) (O.faults out))
      (counts (S.faults src_now) (O.faults out_now)) (S.never_fails src) (S.never_fails src_now)
  pub stops : StopsAtEnd ((meaning c).reads status) ((meaning c).sees_end status) (S.ends_seen src) (S.ends_seen src_now)
  pub exact : StaysExact (reads_on (meaning c) status) (S.is_exact src) (S.is_exact src_now)
  pub steps : Steps (Fetches F.fronts F.loads) F.saves F.faults c (Gave S c src src_now)
      (O.contents out) (O.contents out_now) status shelf shelf_now
  pub sure_shelf : F.never_fails shelf → (status ≢ LoadFault) × F.never_fails shelf_now
  pub sure_saves : F.always_saves shelf → (status ≢ SaveFault) × F.always_saves shelf_now
  pub sent : O.is_flushed out → IsSent status (IsQuiet (O.faults out) (O.faults out_now))
      (O.is_flushed out_now)

-- the words are no command, and nothing was touched, or the command that they are was fulfilled
pub record HeedsWords {A B C : Type 0} (S : Source A) (O : Sink B) (F : Shelf C) (words : List (List ℕ))
    (status : Status) (src src_now : A) (out out_now : B) (shelf shelf_now : C) : Type 0 where
  pub usage : RefusesWords words status
  pub untouched : OnUsage status ((src_now ≡ src) × (out_now ≡ out) × (shelf_now ≡ shelf))
  pub fulfils : OfCommand words (λ c. Fulfils S O F c status src src_now out out_now shelf shelf_now)
  pub sure_shelf : F.never_fails shelf → (status ≢ LoadFault) × F.never_fails shelf_now
  pub sure_saves : F.always_saves shelf → (status ≢ SaveFault) × F.always_saves shelf_now
  pub sent : O.is_flushed out → IsSent status (IsQuiet (O.faults out) (O.faults out_now))
      (O.is_flushed out_now)

-- what `bound` did with a file that was loaded
pub record Certifies {B : Type 0} (O : Sink B) (name : List ℕ) (most : ℕ) (file : List ℕ) (status : Status)
    (out out_now : B) : Type 0 where
  pub behaves : (src : Option (List ℕ)) (known now : Option Files) → HoldsFile known name file
      → KeepsFiles known now → Behaves (Bound name most) status (seen src (O.contents out) known)
      (seen src (O.contents out_now) now)
  pub causes : (src : ℕ) → HasCauses (Bound name most) status (counts src (O.faults out))
      (counts src (O.faults out_now)) (Unit {0}) (Unit {0})
  pub shelfless : IsShelfless status
