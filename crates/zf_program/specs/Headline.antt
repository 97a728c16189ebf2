-- What the program promises of every command: the words of the contract of the top call. No command is named
-- here but in `back`.
use Rattle.std.specs.Prelude.{ℕ, ◌+◌, ◌≡◌, ◌≢◌, ◌<◌, ◌≤◌, ◌⊎◌, Bool, true, false, List, [], ◌∷◌, length, Option, Some, None, codes, All}
use Rattle.zf_header.specs.declared.header.Header.{Header}
use Rattle.zf_header.specs.declared.header.Mode.TheVariants.{Reversible}
use Rattle.zf_header.specs.HeaderBits.{IsHeader}
use Rattle.zf_parse.specs.Raw.{raw_len, stream_text}
use Rattle.zf_base.specs.declared.lane.Ty.TheVariants.{I32}
use Rattle.zf_narrow.specs.declared.narrow.Narrow.{Narrow}
use Rattle.zf_narrow.specs.Texts.{narrow_len, narrow_text}
use Rattle.zf_dev.specs.Faults.{IsQuiet, HasCause}
use Rattle.zf_dev.specs.Shelf.{Files, KeepsFiles, KeepsOthers, SavesFile}
use Rattle.zf_dev.specs.Source.{Takes}
use Rattle.zf_dev.specs.Sink.{Appends, AppendsPrefix}
use Rattle.zf_program.specs.declared.status.Status.{Status}
use Rattle.zf_program.specs.declared.status.Status.TheVariants.{Done, Lines, Usage, ReadFault, WriteFault, LoadFault, SaveFault, Memory}
use Rattle.zf_words.specs.declared.command.Command.{Command}
use Rattle.zf_words.specs.Words.{narrow_word, IsSpelled, IsUsage}
use Rattle.zf_program.specs.World.{World, Seen, Counts, IsExposed}
use Rattle.zf_program.specs.Answer.{meaning, MayFail}
use Rattle.zf_program.specs.Statuses.{is_work_done}

-- this holds of the command that the words are, where they are one
abbrev pub OfCommand : List (List ℕ) → (Command → Type 0) → Type 0
OfCommand words P = (c : Command) → IsSpelled c words → P c

-- this holds after `Usage`
abbrev pub OnUsage : Status → Type 0 → Type 0
OnUsage (Usage k) P = P
OnUsage status P = Unit {0}

-- `Usage` comes exactly where the words are no command, with the number of words that begin one
abbrev pub RefusesWords : List (List ℕ) → Status → Type 0
RefusesWords words (Usage k) = IsUsage words k
RefusesWords words status = (c : Command) × IsSpelled c words

-- a command ended so: the status is not `Usage`
abbrev pub IsOfCommand : Status → Type 0
IsOfCommand (Usage k) = ⊥
IsOfCommand status = Unit {0}

-- the whole text was written where the work was done, but for the saving maybe, and else a prefix of the
-- draft
abbrev pub Writes : Status → List ℕ → List ℕ → Option (List ℕ) → Option (List ℕ) → Type 0
Writes Done text draft before now = Appends before now text
Writes (Lines n) text draft before now = Appends before now text
Writes SaveFault text draft before now = Appends before now text
Writes status text draft before now = AppendsPrefix before now draft

-- what is to be saved was saved. After a fault of the save nothing is known of that name, and after other
-- statuses nothing was saved
abbrev pub Saves : Option (List ℕ × List ℕ) → Status → Option Files → Option Files → Type 0
Saves None status before now = KeepsFiles before now
Saves (Some file) Done before now = SavesFile before now file.0 file.1
Saves (Some file) (Lines n) before now = SavesFile before now file.0 file.1
Saves (Some file) SaveFault before now = KeepsOthers before now file.0
Saves (Some file) status before now = KeepsFiles before now

-- what a command did: its status, what it took, wrote and saved are those of a world that its devices expose
pub record Behaves (c : Command) (status : Status) (before now : Seen) : Type 0 where
  pub ends : IsOfCommand status
  pub world : World
  pub exposed : IsExposed before world
  -- the lines of the script that answered `! memory`
  pub starved : List ℕ
  pub starved_are : (meaning c).starved_are status world starved
  pub stated : (status ≡ (meaning c).status world starved) ⊎ MayFail status c world
  -- the bytes that were read
  pub taken : List ℕ
  pub takes : Takes before.src now.src taken
  pub extent : (meaning c).extent status world.input taken
  pub written : Writes status ((meaning c).text world starved taken)
      ((meaning c).draft status ((meaning c).text world starved taken)) before.out now.out
  pub saved : Saves ((meaning c).saved world starved) status before.shelf now.shelf

-- a count rises only where the device may have been used
abbrev pub IsIdle : Bool → ℕ → ℕ → Type 0
IsIdle true before now = Unit {0}
IsIdle false before now = now ≡ before

-- no fault without a cause: a count that rose. Where the source was sure never to fail, it still is
pub record HasCauses (c : Command) (status : Status) (before now : Counts) (Sure Still : Type 0) : Type 0
  where
    pub reading : HasCause (status ≡ ReadFault) before.src now.src
    pub writing : HasCause (status ≡ WriteFault) before.out now.out
    pub no_reading : IsIdle ((meaning c).reads status) before.src now.src
    pub no_writing : IsIdle (meaning c).writes before.out now.out
    pub sure : Sure → (status ≢ ReadFault) × Still

-- nothing was read behind the end that was seen: it was seen once more at most, and not at all by a status
-- that does not see it, or where the source was not used
pub record StopsAtEnd (used sees : Bool) (before now : ℕ) : Type 0 where
  pub once : now ≤ before + 1
  pub unused : IsIdle used before now
  pub unseen : sees ≡ false → now ≤ before

-- a source that took no more of what it reads than it gave still does, unless it was told that it is read to its end
abbrev pub StaysExact : Bool → Type 0 → Type 0 → Type 0
StaysExact told before now = told ≡ false → before → now

-- all that was written was handed on, unless the sink failed before the work was done
abbrev pub IsSent : Status → Type 0 → Type 0 → Type 0
IsSent status Quiet Sent = ((is_work_done status ≡ true) ⊎ Quiet) → Sent

-- a device failed, or there was no memory
abbrev pub IsFromOutside : Status → Type 0
IsFromOutside status = (status ≡ ReadFault) ⊎ (status ≡ WriteFault) ⊎ (status ≡ Memory)

-- no count rose, and none stands at its last value
pub record AreQuiet (before now : Counts) (shelf_before shelf_now : ℕ) : Type 0 where
  pub src : IsQuiet before.src now.src
  pub out : IsQuiet before.out now.out
  pub shelf : IsQuiet shelf_before shelf_now

-- the status is the one that is stated for what the devices expose, or out of memory where memory is taken;
-- it is no fault
pub record IsComplete (c : Command) (status : Status) (before : Seen) : Type 0 where
  pub world : World
  pub exposed : IsExposed before world
  pub starved : List ℕ
  pub starved_are : (meaning c).starved_are status world starved
  pub stated : (status ≡ (meaning c).status world starved) ⊎ ((status ≡ Memory) × (meaning c).memory world)
  pub no_fault : (status ≢ ReadFault) × (status ≢ WriteFault) × (status ≢ LoadFault) × (status ≢ SaveFault)

-- the words of `restore`, which writes raw values of the stream's own type or narrow ones
abbrev pub restore_words : Option Narrow → List (List ℕ)
restore_words None = codes "restore" ∷ []
restore_words (Some n) = codes "restore" ∷ narrow_word n ∷ []

-- only int32 values stand for narrow ones
abbrev pub HasTypeOf : Option Narrow → Header → Type 0
HasTypeOf None h = Unit {0}
HasTypeOf (Some n) h = h.ty ≡ I32

-- how many raw bytes there are, and their stream
abbrev pub raw_len_of : Option Narrow → Header → ℕ
raw_len_of None h = raw_len h
raw_len_of (Some n) h = narrow_len n h

abbrev pub stream_of : Option Narrow → Header → List ℕ → List ℕ
stream_of None h bytes = stream_text h bytes
stream_of (Some n) h bytes = narrow_text n h bytes

-- the words are those of `restore`, and the source holds the reversible stream of these raw bytes
pub record HoldsReversible (words : List (List ℕ)) (src : Option (List ℕ)) (kind : Option Narrow) (h : Header)
    (bytes : List ℕ) : Type 0 where
  pub words_are : words ≡ restore_words kind
  pub header : IsHeader h
  pub typed : HasTypeOf kind h
  pub mode : h.mode ≡ Reversible
  pub whole : length bytes ≡ raw_len_of kind h
  pub small : All (λ b. b < 256) bytes
  pub stream : src ≡ Some (stream_of kind h bytes)

-- exactly these bytes were written, and the work was done
pub record IsBack (status : Status) (before now : Option (List ℕ)) (bytes : List ℕ) : Type 0 where
  pub done : status ≡ Done
  pub written : Appends before now bytes

-- what a reversible stream was made of comes back, unless a device failed or there was no memory
abbrev pub GivesBack : List (List ℕ) → Status → Seen → Seen → Type 0
GivesBack words status before now = (kind : Option Narrow) (h : Header) (bytes : List ℕ)
    → HoldsReversible words before.src kind h bytes → IsBack status before.out now.out bytes
    ⊎ IsFromOutside status

-- the text was sent, whole where the count of faults did not rise, and else a prefix of it
pub record Sends (text : List ℕ) (before now : Option (List ℕ)) (faults_before faults_now : ℕ) : Type 0 where
  pub prefix : AppendsPrefix before now text
  pub whole : IsQuiet faults_before faults_now → Appends before now text
  pub kept : faults_before ≤ faults_now
