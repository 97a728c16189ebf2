-- What a command wrote is handed on once it has ended: what stays of what is known of it, and what a fault makes of it.
use Rattle.std.proofs.Common.{rules, ◌≡◌, ◌≢◌, ℕ, ◌≤◌, true, false, List, [], take, inl, inr, Option, None, Result, Ok, IsOk, IsErr, refl, ap, sym, subst, ◌∙◌, append-nil, arith}
use Rattle.std.{specs.Prelude.{OnOk}, proofs.lemmas.Bool.{false≢true}}
use Rattle.zf_dev.{specs.Faults.{IsQuiet, HasCause}, specs.declared.faults.Failed.{Failed}}
use Rattle.zf_dev.{specs.declared.faults.LoadError.{LoadError}, specs.Shelf.{Files}}
use Rattle.zf_dev.{specs.Sink.{Appends, AppendsPrefix}, specs.declared.source.Source.{Ghosts as Source}}
use Rattle.zf_dev.{specs.declared.sink.Sink.{Ghosts as Sink}, specs.declared.shelf.Shelf.{Ghosts as Shelf}}
use Rattle.zf_dev.proofs.Appending.{Appends-append, AppendsPrefix-all}
use Rattle.zf_dev.specs.declared.faults.LoadError.TheVariants as loading
use Rattle.zf_parse.specs.Parsing.{Said}
use Rattle.zf_words.specs.declared.command.Command.{Command}
use Rattle.zf_program.specs.declared.status.Status.{Status}
use Rattle.zf_program.specs.declared.status.Status.TheVariants.{Done, WriteFault, LoadFault, SaveFault}
use Rattle.zf_words.specs.declared.command.Command.TheVariants.{New, Run, Look, Bound}
use Rattle.zf_program.{specs.Faults.{load_status}, specs.Opened.{array_in, opened}, specs.Answer.{meaning, reads_on, OfUsed}}
use Rattle.zf_program.{specs.Certified.{certified_status}, specs.World.{Seen, seen, counts}}
use Rattle.zf_program.{proofs.Ends.{IsPossible}, specs.Sending.{IsDone, EndsSent, HandsOn}}
use Rattle.zf_program.{specs.Steps.{IsShelfless}, specs.Fetching.{Fetches}, specs.Calls.{Streams, Fulfils}}
use Rattle.zf_program.specs.Headline.{IsSent, Writes, Saves, Behaves, HasCauses, IsIdle, StopsAtEnd, Sends}
use Rattle.zf_program.{specs.Statuses.{is_work_done}, specs.Steps.{Told}}
use Rattle.zf_program.{proofs.Stepping.{Steps-none, Told-stays, untold}, proofs.Loading.{ComesFirst}}
use Rattle.zf_program.proofs.Promises.{IsRefusal, opened_first_array, IsPossible-behaves}

-- ---- what was written stays what it was

pub Appends-stays : (before mid now : Option (List ℕ)) (text : List ℕ) → Appends before mid text → Appends mid now [] → Appends before now text
Appends-stays before mid now text written stays = subst (Appends before now) (append-nil text) (Appends-append before mid now text [] written stays)

prefix_stays : (before mid now : Option (List ℕ)) (text : List ℕ) → AppendsPrefix before mid text → Appends mid now [] → AppendsPrefix before now text
prefix_stays before mid now text prefix stays = (prefix.0, prefix.1, Appends-stays before mid now (take prefix.0 text) prefix.2 stays)

Writes-stays : (status : Status) (text draft : List ℕ) (before mid now : Option (List ℕ)) → Appends mid now [] → Writes status text draft before mid → Writes status text draft before now
Writes-stays status text draft before mid now stays written = search rules

pub Behaves-stays : (c : Command) (status : Status) (before : Seen) (src mid now : Option (List ℕ)) (shelf : Option Files) → Appends mid now [] → Behaves c status before (seen src mid shelf) → Behaves c status before (seen src now shelf)
Behaves-stays c status before src mid now shelf stays b = search (rules, Writes-stays)

-- ---- commands whose output is handed on once they have ended, which may make a fault of the sink of work that was done

-- all but those that have none, or hand it on themselves
abbrev pub IsSentAfter : Command → Type 0
IsSentAfter (New name ty ns b) = ⊥
IsSentAfter (Run name caching) = ⊥
IsSentAfter (Look name lines) = ⊥
IsSentAfter c = Unit {0}

-- a file that was opened so is open where the work was done
certified_done : (file : Result Said Status) (status : Status) → IsRefusal ComesFirst file → IsDone status → status ≡ certified_status file → IsOk file
unfolding IsRefusal
certified_done _ status refusal done same = search rules

-- a write fault in the place of a status, with all that was written
instead : (c : Command) (status : Status) (before now : Seen) (b : Behaves c status before now) → OfUsed (meaning c).writes ((meaning c).works b.world) → (meaning c).starved_are WriteFault b.world b.starved → (meaning c).extent WriteFault b.world.input b.taken
    → Appends before.out now.out ((meaning c).draft WriteFault ((meaning c).text b.world b.starved b.taken)) → Saves ((meaning c).saved b.world b.starved) WriteFault before.shelf now.shelf → Behaves c WriteFault before now
instead c status before now b may starved_are extent written saved = search (rules, AppendsPrefix-all)

-- the status was stated, since no work that was done comes from outside
stated_done : (c : Command) (status : Status) (before now : Seen) → IsDone status → (b : Behaves c status before now) → status ≡ (meaning c).status b.world b.starved
stated_done c status before now done b = search rules

unsent : (c : Command) (status : Status) (before now : Seen) → IsSentAfter c → IsDone status → Behaves c status before now → Behaves c WriteFault before now
unsent (Bound name most) Done before now unsaved done b =
    let may = certified_done (opened array_in (b.world.files name)) Done (opened_first_array (b.world.files name)) tt (stated_done (Bound name most) Done before now tt b) in
    instead (Bound name most) Done before now b may b.starved_are b.extent b.written b.saved
unsent (New name ty ns bits) status before now unsaved done b = absurd unsaved
unsent (Run name caching) status before now unsaved done b = absurd unsaved
unsent (Look name lines) status before now unsaved done b = absurd unsaved
unsent c Done before now unsaved done b =
    instead c Done before now b tt b.starved_are (search rules) b.written b.saved
unsent c status before now unsaved done b = search (rules, IsPossible-behaves)

-- a command that loads nothing ends with no fault of a load
no_load : (c : Command) → (meaning c).loads ≡ false → IsPossible c LoadFault → ⊥
no_load c none may = search rules

-- and they never end with a fault of a save
no_save : (c : Command) → IsSentAfter c → IsPossible c SaveFault → ⊥
no_save c unsaved may = search rules

done_work : (c : Command) (status : Status) → IsSentAfter c → IsPossible c status → is_work_done status ≡ true → IsDone status
done_work c status unsaved may work = search rules

-- a sink that they write to may have had a fault
writes_used : (c : Command) → IsSentAfter c → (before now : ℕ) → IsIdle (meaning c).writes before now
writes_used c unsaved before now = search rules

-- where they may have come to the source by a status, they may have by a write fault
reads_cut : (c : Command) → IsSentAfter c → (status : Status) (m n : ℕ) → IsIdle ((meaning c).reads status) m n → IsIdle ((meaning c).reads WriteFault) m n
reads_cut c unsaved status m n idle = search rules

-- and where they may have seen its end
sees_cut : (c : Command) → IsSentAfter c → (status : Status) (m n : ℕ) → ((meaning c).sees_end status ≡ false → n ≤ m) → (meaning c).sees_end WriteFault ≡ false → n ≤ m
sees_cut c unsaved status m n unseen = search rules

-- and where the source may have been told that it is read to its end, it may have been by each
told_alike : (c : Command) → IsSentAfter c → (status ended : Status) → reads_on (meaning c) status ≡ reads_on (meaning c) ended
told_alike (Run name caching) unsaved status ended = absurd unsaved
told_alike (Look name lines) unsaved status ended = absurd unsaved
told_alike c unsaved status ended = refl

module _ (c : Command) (status ended : Status) (unsaved : IsSentAfter c) where
  -- what such a command did once what it wrote was handed on
  pub Behaves-sent : (before : Seen) (src mid now : Option (List ℕ)) (shelf : Option Files) {m n : ℕ} {Flushed : Type 0} → Behaves c status before (seen src mid shelf) → HandsOn status ended mid now m n Flushed → Behaves c ended before (seen src now shelf)
  Behaves-sent before src mid now shelf b sent =
      let stayed = Behaves-stays c status before src mid now shelf sent.stays b in search (rules, unsent)

  idle_sent : (m n : ℕ) {Failed : Type 0} → IsIdle ((meaning c).reads status) m n → EndsSent status ended Failed → IsIdle ((meaning c).reads ended) m n
  idle_sent m n idle ends = search (rules, reads_cut)

  unseen_sent : (m n : ℕ) {Failed : Type 0} → ((meaning c).sees_end status ≡ false → n ≤ m) → EndsSent status ended Failed → (meaning c).sees_end ended ≡ false → n ≤ m
  unseen_sent m n unseen ends = search (rules, sees_cut)

  -- how often it saw the end of its source
  pub StopsAtEnd-sent : (m n : ℕ) {k l : ℕ} {before now : Option (List ℕ)} {Flushed : Type 0} → StopsAtEnd ((meaning c).reads status) ((meaning c).sees_end status) m n → HandsOn status ended before now k l Flushed → StopsAtEnd ((meaning c).reads ended) ((meaning c).sees_end ended) m n
  StopsAtEnd-sent m n stops sent = record { once = stops.once; unused = idle_sent m n stops.unused sent.ends; unseen = unseen_sent m n stops.unseen sent.ends }

  -- its causes
  pub HasCauses-sent : (src src_now out mid now : ℕ) {before after : Option (List ℕ)} {Sure Still Flushed : Type 0} → HasCauses c status (counts src out) (counts src_now mid) Sure Still → HandsOn status ended before after mid now Flushed
      → HasCauses c ended (counts src out) (counts src_now now) Sure Still
  HasCauses-sent src src_now out mid now {before} {after} {Sure} {Still} causes sent = search (rules, idle_sent, writes_used)

  -- no fault of a shelf where there is none
  pub IsShelfless-sent : (before now : Seen) → (meaning c).loads ≡ false → Behaves c ended before now → IsShelfless ended
  IsShelfless-sent before now none b = search (rules, no_load, no_save)

  -- and that all was handed on
  pub IsSent-sent : (before now : Seen) (out mid after : ℕ) {was is : Option (List ℕ)} {Flushed : Type 0} → Behaves c ended before now → out ≤ mid → HandsOn status ended was is mid after Flushed → IsSent ended (IsQuiet out after) Flushed
  IsSent-sent before now out mid after {was} {is} {Flushed} b kept sent = λ why. sent.flushed (elim why [
    | inl work ↦ inl (done_work c ended unsaved (IsPossible-behaves c ended before now b) work)
    | inr quiet ↦ inr (omega (arith, kept, quiet))
  ])

  -- what is told of it
  told_sent : (given : List ℕ → Type 0) (out mid now : Option (List ℕ)) {m n : ℕ} {Flushed : Type 0} → (is_work_done status ≡ true → Told c (Ok []) given out mid status None) → HandsOn status ended mid now m n Flushed
      → is_work_done ended ≡ true → Told c (Ok []) given out now ended None
  told_sent given out mid now told sent work = elim sent.ends [
    | inl same ↦
        let was = told (subst (λ s. is_work_done s ≡ true) same work) in
        subst (λ s. Told c (Ok []) given out now s None) (sym same) (Told-stays (λ text written. Appends-stays out mid now text written sent.stays) was)
    | inr cut ↦ untold ended (ap is_work_done cut.0) work
  ]

  -- over all devices, of a command that has no shelf
  pub Fulfils-sent : {A B C : Type 0} {S : Source A} {O : Sink B} {F : Shelf C} → (meaning c).loads ≡ false → (meaning c).saves ≡ false → (src src_now : A) (out mid now : B) (shelf : C) → Streams S O c status src src_now out mid
      → HandsOn status ended (O.contents mid) (O.contents now) (O.faults mid) (O.faults now) (O.is_flushed now) → Fulfils S O F c ended src src_now out now shelf shelf
  Fulfils-sent {S} {O} {F} unloaded unchanged src src_now out mid now shelf s sends =
      let behaves = λ (files : Option Files). Behaves-sent (seen (S.contents src) (O.contents out) files) (S.contents src_now) (O.contents mid) (O.contents now) files (s.behaves files) sends in
      let shelfless = IsShelfless-sent _ _ unloaded (behaves None) in
      record {
        behaves = behaves (F.files shelf);
        causes = HasCauses-sent _ _ _ _ _ s.causes sends;
        stops = StopsAtEnd-sent _ _ s.stops sends;
        exact = λ told. s.exact (told_alike c unsaved status ended ∙ told);
        steps = Steps-none (Fetches F.fronts F.loads) F.saves F.faults c _ _ _ ended shelf unloaded unchanged shelfless (told_sent _ _ _ _ s.told sends);
        sure_shelf = λ sure. (shelfless.no_load, sure);
        sure_saves = λ sure. (shelfless.no_save, sure);
        sent = λ flushed. IsSent-sent _ _ _ _ _ (behaves None) s.causes.writing.0 sends;
      }

pub unloaded_sent : (status ended : Status) {before now : Option (List ℕ)} {m n : ℕ} {Flushed : Type 0} → status ≢ LoadFault → HandsOn status ended before now m n Flushed → ended ≢ LoadFault
unloaded_sent status ended none sent = search rules

pub unsaved_sent : (status ended : Status) {before now : Option (List ℕ)} {m n : ℕ} {Flushed : Type 0} → status ≢ SaveFault → HandsOn status ended before now m n Flushed → ended ≢ SaveFault
unsaved_sent status ended none sent = search rules

-- work that was done is no fault of a save
pub done_unsaved : (status : Status) → IsDone status → status ≢ SaveFault
done_unsaved status done is = subst IsDone is done

-- a file that was not loaded is no fault of a save
pub unsaved_status : (e : LoadError) → load_status e ≢ SaveFault
unsaved_status loading.Failed is = cc
unsaved_status e is = cc

-- a file that was not loaded was no fault of the shelf, where the load was none
pub unloaded_status : (e : LoadError) → e ≢ loading.Failed → load_status e ≢ LoadFault
unloaded_status loading.Failed none is = none refl
unloaded_status e none is = cc

-- ---- a flush, and what it makes of what is known

-- a flush that is quiet handed on
pub flushed_quiet : (r : Result (Unit {0}) Failed) (first m n : ℕ) {Flushed : Type 0} → HasCause (IsErr r) m n → OnOk r Flushed → first ≤ m → IsQuiet first n → Flushed
flushed_quiet _ first m n cause flushed kept quiet = search rules

pub IsSent-later : (status : Status) (first m n : ℕ) {Flushed : Type 0} → first ≤ m → IsSent status (IsQuiet m n) Flushed → IsSent status (IsQuiet first n) Flushed
IsSent-later status first m n kept sent = λ why. sent (elim why [ inl work ↦ inl work | inr quiet ↦ inr (omega (arith, kept, quiet)) ])

pub Sends-stays : (text : List ℕ) (before mid now : Option (List ℕ)) (first m n : ℕ) → Sends text before mid first m → Appends mid now [] → m ≤ n → Sends text before now first n
Sends-stays text before mid now first m n sends stays kept = search (rules, prefix_stays, Appends-stays)

-- ---- a script whose replies were handed on or not

-- a write fault stays one
pub cut_sent : (ended : Status) {before now : Option (List ℕ)} {m n : ℕ} {Flushed : Type 0} → HandsOn WriteFault ended before now m n Flushed → ended ≡ WriteFault
cut_sent ended sent = elim sent.ends [ inl same ↦ same | inr failed ↦ failed.0 ]

pub IsSent-cut : (ended : Status) (first m n : ℕ) {before now : Option (List ℕ)} {Flushed : Type 0} → first ≤ m → HandsOn WriteFault ended before now m n Flushed → IsSent ended (IsQuiet first n) Flushed
IsSent-cut ended first m n kept sent = λ why. sent.flushed (search (rules, false≢true, cut_sent))
