-- From the promises of a command to those of the program.
use Rattle.std.proofs.Common.{rules, ◌≡◌, ◌≢◌, ℕ, ◌<◌, Bool, true, false, cond, ◌⊎◌, inl, inr, List, Option, Some, None, Result, Ok, Err, refl, ap, subst, ◌∙◌}
use Rattle.std.proofs.lemmas.Bool.{ltb-true}
use Rattle.zf_base.{specs.declared.lane.Ty.{Ty}, specs.declared.lane.Ty.TheVariants.{I32}}
use Rattle.zf_dev.{specs.Faults.{IsQuiet}, specs.Sink.{Appends}}
use Rattle.zf_header.{specs.declared.header.HeaderFault.{HeaderFault}, specs.declared.header.Mode.{Mode}}
use Rattle.zf_header.{specs.declared.header.Mode.TheVariants.{Rate}, specs.HeaderFaults.{header_fault}}
use Rattle.zf_parse.{specs.declared.fault.StreamFault.{StreamFault}, specs.Raw.{stream_text}}
use Rattle.zf_parse.specs.Parsing.{Said, header_of, parse, restore_answer, restored_text}
use Rattle.zf_parse.proofs.Steps.{without_said}
use Rattle.zf_parse.proofs.StreamsBack.{answer-stream_text, text-reversible_text}
use Rattle.zf_parse.specs.declared.fault.StreamFault.TheVariants as faults
use Rattle.zf_stream.proofs.OwnFaults.{is_foreign, blames_foreign, own_answer}
use Rattle.zf_narrow.proofs.StreamsBack.{answer-narrow_text, text-narrow_text}
use Rattle.zf_narrow.specs.Texts.{narrow_text, answer_behind, restore_narrow_answer, narrow_restored}
use Rattle.zf_words.specs.Words.{IsSpelled}
use Rattle.zf_program.specs.Faults.{status_of, narrow_status_of, header_status}
use Rattle.zf_words.specs.declared.command.Command.{Command}
use Rattle.zf_program.specs.declared.status.Status.{Status}
use Rattle.zf_program.specs.declared.status.Status.TheVariants.{Done, NotRate, Missing, ScriptLong, FileLong, ReadFault, WriteFault, LoadFault, SaveFault, Memory}
use Rattle.zf_words.specs.declared.command.Command.TheVariants.{Compress, Restore, RestoreNarrow, Run, Look, Bound}
use Rattle.zf_program.{specs.World.{World, Seen, Counts, ExposesInput}, specs.Certified.{certified_status}}
use Rattle.zf_program.specs.Opened.{array_in, stream_in, opened, said_or_status, said_at_rate, array_behind}
use Rattle.zf_program.specs.Scripts.{Answering, run_answers, look_answers, lines_status, script_status}
use Rattle.zf_program.{specs.Answer.{meaning, MayFail}, specs.Steps.{IsShelfless}}
use Rattle.zf_program.proofs.Ends.{IsPossible, CompressEnds, RestoreEnds, RestoreNarrowEnds, InfoEnds, FileEnds, LookEnds, RunEnds, BoundEnds}
use Rattle.zf_program.specs.Headline.{OfCommand, OnUsage, RefusesWords, IsOfCommand, Behaves, HasCauses, IsComplete, IsFromOutside, IsBack, GivesBack}
use Rattle.zf_words.proofs.CommandWords.{one_command}
use Rattle.zf_program.proofs.Loading.{ComesFirst}
use Rattle.zf_program.specs.declared.status.Status.TheVariants as statuses

-- what holds of one command that the words are holds of each
pub OfCommand-one : (words : List (List ℕ)) (c : Command) → IsSpelled c words → (P : Command → Type 0) → P c → OfCommand words P
OfCommand-one words c spelled P this = λ d other. subst P (one_command words c d spelled other) this

-- a command that the words are does not refuse them
pub RefusesWords-of : (words : List (List ℕ)) (status : Status) → (c : Command) × IsSpelled c words → IsOfCommand status → RefusesWords words status
RefusesWords-of words status spelled ends = search rules

pub OnUsage-of : (status : Status) (P : Type 0) → IsOfCommand status → OnUsage status P
OnUsage-of status _ ends = search rules

-- ---- what follows from the two records of a command

-- a status from outside that is no fault of a device is out of memory
only_memory : (status : Status) (c : Command) (w : World) (starved : List ℕ) → MayFail status c w → (status ≢ ReadFault) × (status ≢ WriteFault) × (status ≢ LoadFault) × (status ≢ SaveFault) → (status ≡ Memory) × (meaning c).memory w
only_memory status c w starved may none = search rules

-- where no count rose, no fault is answered
pub IsComplete-quiet : (c : Command) (status : Status) (before now : Seen) (old new : Counts) (Sure Still : Type 0) → Behaves c status before now → HasCauses c status old new Sure Still → IsQuiet old.src new.src → IsQuiet old.out new.out → IsShelfless status → IsComplete c status before
IsComplete-quiet c status before now old new Sure Still behaves causes src out shelf = search (rules, only_memory)

-- the statuses from outside that a command may end with are among those that it can end with
possible_fault : (status : Status) (c : Command) (w : World) (starved : List ℕ) → MayFail status c w → IsPossible c status
possible_fault status c w starved may = search rules

-- and so are those that it states for an input
compress_ends : (starved_are n : ℕ) (short long : Bool) → (short ≡ true → n < starved_are) → CompressEnds starved_are (status_of (cond short (Err (faults.RawShort n)) (cond long (Err faults.RawLong) (Ok tt))))
compress_ends starved_are n short long less = search rules

restore_ends : (answer : Result (Unit {0}) StreamFault) → blames_foreign answer ≡ false → RestoreEnds (status_of answer)
unfolding blames_foreign is_foreign
restore_ends answer own = search rules

-- whatever the header says
RestoreEnds-narrow : (status : Status) → RestoreEnds status → RestoreNarrowEnds status
RestoreEnds-narrow statuses.NotNarrow ends = tt
RestoreEnds-narrow status ends = ends

narrow_ends : (fault : Option HeaderFault) (ty : Ty) (answer : Result (Unit {0}) StreamFault) → blames_foreign answer ≡ false → RestoreNarrowEnds (narrow_status_of (answer_behind fault ty answer))
narrow_ends None I32 (Err e) own = search (rules, RestoreEnds-narrow, restore_ends)
narrow_ends fault ty answer own = search rules

info_ends : (fault : Option HeaderFault) → InfoEnds (header_status fault)
info_ends _ = search rules

-- a file that is not opened ends a command with one of these statuses
unfoldable pub IsRefusal : (Status → Type 0) → Result Said Status → Type 0
IsRefusal Ends (Ok said) = Unit {0}
IsRefusal Ends (Err status) = Ends status

said_ends : (answer : Result Said StreamFault) → blames_foreign (without_said answer) ≡ false → IsRefusal FileEnds (said_or_status answer)
unfolding blames_foreign is_foreign IsRefusal
said_ends answer own = search rules

-- what ends a file ends a look, and what ends a look ends a run
FileEnds-look : (status : Status) → FileEnds status → LookEnds status
FileEnds-look status ends = search rules

LookEnds-run : (status : Status) → LookEnds status → RunEnds status
LookEnds-run status ends = search rules

FileEnds-bound : (status : Status) → FileEnds status → BoundEnds status
FileEnds-bound status ends = search rules

refusal_of : (Ends Others : Status → Type 0) → ((status : Status) → Ends status → Others status) → (file : Result Said Status) → IsRefusal Ends file → IsRefusal Others file
unfolding IsRefusal
refusal_of _ _ more _ ends = search rules

-- it is no array's for one of these reasons
array_ends : (Ends : Status → Type 0) → ((f : HeaderFault) → Ends (statuses.Header f)) → ((m : ℕ) → Ends (NotRate m)) → ((status : Status) → FileEnds status → Ends status) → (fault : Option HeaderFault) (mode : Mode) (answer : Result Said StreamFault) → blames_foreign (without_said answer) ≡ false
    → IsRefusal Ends (array_behind fault (said_at_rate mode answer))
unfolding IsRefusal
array_ends Ends header no_rate more None (Rate b) answer own = refusal_of FileEnds Ends more (said_or_status answer) (said_ends answer own)
array_ends Ends header no_rate more fault mode answer own = search rules

own_said : (bytes : List ℕ) → blames_foreign (without_said (parse bytes)) ≡ false
own_said bytes = own_answer bytes

array_in-ends : (bytes : List ℕ) → IsRefusal RunEnds (array_in bytes)
unfolding array_in
array_in-ends bytes = array_ends RunEnds (λ f. tt) (λ m. tt) (λ status ends. LookEnds-run status (FileEnds-look status ends)) (header_fault bytes) (header_of bytes).mode (parse bytes) (own_said bytes)

array_in-certified : (bytes : List ℕ) → IsRefusal BoundEnds (array_in bytes)
unfolding array_in
array_in-certified bytes = array_ends BoundEnds (λ f. tt) (λ m. tt) FileEnds-bound (header_fault bytes) (header_of bytes).mode (parse bytes) (own_said bytes)

certified_ends : (file : Result Said Status) → IsRefusal BoundEnds file → BoundEnds (certified_status file)
unfolding IsRefusal
certified_ends _ refusal = search rules

stream_in-ends : (bytes : List ℕ) → IsRefusal LookEnds (stream_in bytes)
unfolding stream_in
stream_in-ends bytes = refusal_of FileEnds LookEnds FileEnds-look (said_or_status (parse bytes)) (said_ends (parse bytes) (own_said bytes))

opened_ends : (Ends : Status → Type 0) (reading : List ℕ → Result Said Status) → Ends Missing → Ends FileLong → ((bytes : List ℕ) → IsRefusal Ends (reading bytes)) → (file : Option (List ℕ)) → IsRefusal Ends (opened reading file)
unfolding IsRefusal
opened_ends _ reading missing long ends _ = search rules

-- whatever the file holds, it is refused before anything is read of a script
FileEnds-first : (status : Status) → FileEnds status → ComesFirst status
FileEnds-first status ends = search rules

array_in-first : (bytes : List ℕ) → IsRefusal ComesFirst (array_in bytes)
unfolding array_in
array_in-first bytes = array_ends ComesFirst (λ f. tt) (λ m. tt) FileEnds-first (header_fault bytes) (header_of bytes).mode (parse bytes) (own_said bytes)

pub opened_first_array : (file : Option (List ℕ)) → IsRefusal ComesFirst (opened array_in file)
opened_first_array file = opened_ends ComesFirst array_in tt tt array_in-first file

script_ends : (Ends : Status → Type 0) (answers : Answering) → Ends ScriptLong → ((n : ℕ) → Ends (lines_status n)) → (file : Result Said Status) → IsRefusal Ends file → (starved script : List ℕ) → Ends (script_status answers file starved script)
unfolding IsRefusal
script_ends _ answers long ends _ refusal starved script = search rules

-- some lines are refused, or none
lines_end : (n : ℕ) → LookEnds (lines_status n)
lines_end _ = search rules

possible_status : (c : Command) (w : World) (starved : List ℕ) → IsPossible c ((meaning c).status w starved)
possible_status (Compress h) w starved = search (rules, compress_ends, ltb-true)
possible_status Restore w starved = restore_ends (restore_answer w.input) (own_answer w.input)
possible_status (RestoreNarrow n) w starved = narrow_ends (header_fault w.input) (header_of w.input).ty (restore_answer w.input) (own_answer w.input)
possible_status (Run name caching) w starved =
    script_ends RunEnds (run_answers caching) tt (λ n. LookEnds-run (lines_status n) (lines_end n)) (opened array_in (w.files name)) (opened_ends RunEnds array_in tt tt array_in-ends (w.files name)) starved w.input
possible_status (Look name l) w starved =
    script_ends LookEnds (look_answers l) tt lines_end (opened stream_in (w.files name)) (opened_ends LookEnds stream_in tt tt stream_in-ends (w.files name)) starved w.input
possible_status (Bound name most) w starved = certified_ends (opened array_in (w.files name)) (opened_ends BoundEnds array_in tt tt array_in-certified (w.files name))
possible_status c w starved = search (rules, compress_ends, ltb-true, info_ends)

pub IsPossible-behaves : (c : Command) (status : Status) (before now : Seen) → Behaves c status before now → IsPossible c status
IsPossible-behaves c status before now behaves = search (rules, possible_status, possible_fault)

from_outside : (status : Status) (c : Command) (w : World) → (meaning c).loads ≡ false → (meaning c).saves ≡ false → MayFail status c w → IsFromOutside status
from_outside status c w no_load no_save may = search rules

-- a source that exposes these bytes exposes no other
the_input : (known : Option (List ℕ)) (bytes input : List ℕ) → known ≡ Some bytes → ExposesInput known input → input ≡ bytes
the_input _ bytes input is exposed = search rules

-- these bytes are written by a command that is done over what the source holds, and reads all of it
comes_back : (c : Command) (status : Status) (before now : Seen) (held bytes : List ℕ) → before.src ≡ Some held → (meaning c).loads ≡ false → (meaning c).saves ≡ false
    → ((w : World) (starved : List ℕ) → w.input ≡ held → (meaning c).status w starved ≡ Done) → ((w : World) (starved taken : List ℕ) → taken ≡ held → (meaning c).text w starved taken ≡ bytes)
    → ((b : Behaves c Done before now) → b.taken ≡ b.world.input) → Behaves c status before now → IsBack status before.out now.out bytes ⊎ IsFromOutside status
comes_back c status before now held bytes holds no_load no_save is_done gives whole behaves =
    let w = behaves.world in
    let input = the_input before.src held w.input holds behaves.exposed.input in
    elim behaves.stated [
      | inl same ↦
          let done : status ≡ Done = same ∙ is_done w behaves.starved input in
          inl (record { done = done; written = by (subst (λ s. Behaves c s before now) done behaves) })
      | inr may ↦ inr (from_outside status c w no_load no_save may)
    ]
  where
    by : Behaves c Done before now → Appends before.out now.out bytes
    by b = subst (Appends before.out now.out) (gives b.world b.starved b.taken (whole b ∙ the_input before.src held b.world.input holds b.exposed.input)) b.written

-- what `restore` does with a reversible stream
pub GivesBack-behaves : (words : List (List ℕ)) (status : Status) (before now : Seen) → OfCommand words (λ c. Behaves c status before now) → GivesBack words status before now
GivesBack-behaves words status before now command None h bytes holds =
    comes_back Restore status before now (stream_text h bytes) bytes holds.stream refl refl
    (λ w starved input. ap (λ xs. status_of (restore_answer xs)) input ∙ ap status_of (answer-stream_text h bytes holds.header))
    (λ w starved taken is. ap restored_text is ∙ text-reversible_text h bytes holds.header holds.mode holds.whole holds.small)
    (λ b. b.extent)
    (command Restore (tt, holds.words_are))
GivesBack-behaves words status before now command (Some n) h bytes holds =
    comes_back (RestoreNarrow n) status before now (narrow_text n h bytes) bytes holds.stream refl refl
    (λ w starved input. ap (λ xs. narrow_status_of (restore_narrow_answer xs)) input ∙ ap narrow_status_of (answer-narrow_text n h bytes holds.header holds.typed))
    (λ w starved taken is. ap (narrow_restored n) is ∙ text-narrow_text n h bytes holds.header holds.typed holds.mode holds.whole holds.small)
    (λ b. b.extent)
    (command (RestoreNarrow n) (tt, holds.words_are))
