-- The steps of a call on the shelf, and what is told of them.
use Rattle.std.proofs.Common.{rules, ◌≡◌, ◌≢◌, ℕ, ◌≤◌, ◌&&◌, Bool, true, false, List, Option, Some, None, Result, Ok, Err, ◌⊎◌, inl, inr, refl, ap, sym, subst, ◌∙◌, [], arith}
use Rattle.std.proofs.lemmas.Bool.{true≢false}
use Rattle.zf_dev.{specs.Faults.{IsQuiet, HasCause}, specs.Shelf.{Files}}
use Rattle.zf_dev.{specs.Source.{Gives}, proofs.Giving.{Gives-none}, specs.Sink.{Appends}, proofs.Appending.{Appends-none}}
use Rattle.zf_dev.specs.declared.source.Source.{Ghosts as Source}
use Rattle.zf_dev.specs.declared.faults.TakeError.{TakeError}
use Rattle.zf_dev.specs.declared.faults.TakeError.TheVariants as taking
use Rattle.zf_words.specs.declared.command.Command.{Command}
use Rattle.zf_program.specs.declared.status.Status.{Status}
use Rattle.zf_program.{specs.declared.status.Status.TheVariants.{Done, LoadFault, SaveFault, WriteFault}, specs.Answer.{meaning, MayFail}}
use Rattle.zf_program.{specs.Faults.{take_status}, specs.Sending.{IsDone, EndsSent}}
use Rattle.zf_base.specs.declared.lane.Ty.{Ty}
use Rattle.zf_store.specs.Stored.{file_of, zeros}
use Rattle.zf_words.specs.declared.command.Command.TheVariants.{New}
use Rattle.zf_program.specs.World.{World, seen}
use Rattle.zf_program.{specs.Statuses.{is_work_done}, specs.Headline.{Writes, Behaves}, proofs.Exposed.{Takes-none}}
use Rattle.zf_program.specs.Steps.{is_saved, Gave, Makes, Saving, IsLoaded, Told, SavesOnce, Steps, IsShelfless}

and_false : (b : Bool) → b && false ≡ false
and_false _ = search rules

-- ---- one step, or none

module _ {F : Type 0} (step : F → F → Type 0) (faults : F → ℕ) where
  pub Makes-none : (b : Bool) (fault : Type 0) (shelf : F) → b ≡ false → (fault → ⊥) → Makes b step faults fault shelf shelf
  Makes-none b fault shelf is none = subst (λ t. Makes t step faults fault shelf shelf) (sym is) (refl, none)

  -- no count falls
  Makes-kept : (b : Bool) (fault : Type 0) (before now : F) → Makes b step faults fault before now → faults before ≤ faults now
  Makes-kept _ fault before now makes = search rules

  -- where the count did not rise there is no fault
  Makes-quiet : (b : Bool) (fault : Type 0) (before now : F) (first last : ℕ) → first ≤ faults before → faults now ≤ last → IsQuiet first last → Makes b step faults fault before now → fault → ⊥
  Makes-quiet _ fault before now first last low high quiet makes is = search rules

  -- the same steps without this fault
  Makes-other : (b : Bool) (fault other : Type 0) (before now : F) → (other → ⊥) → Makes b step faults fault before now → Makes b step faults other before now
  Makes-other _ fault other before now none makes = search rules

-- ---- what is told

-- the source gave what is told in other words
Told-by : {c : Command} {answer : Result (List ℕ) Status} {given also : List ℕ → Type 0} {out out_now : Option (List ℕ)} {status : Status} {file : Option (List ℕ × List ℕ)} → ((bytes : List ℕ) → given bytes → also bytes) → Told c answer given out out_now status file → Told c answer also out out_now status file
Told-by more t = record { world = t.world; loaded = t.loaded; input = more t.world.input t.input; starved = t.starved; starved_are = t.starved_are; stated = t.stated; written = t.written; to_save = t.to_save }

-- what was written stays what it was
pub Told-stays : {c : Command} {answer : Result (List ℕ) Status} {given : List ℕ → Type 0} {out mid out_now : Option (List ℕ)} {status : Status} {file : Option (List ℕ × List ℕ)} → ((text : List ℕ) → Appends out mid text → Appends out out_now text) → Told c answer given out mid status file → Told c answer given out out_now status file
Told-stays stays t = record { world = t.world; loaded = t.loaded; input = t.input; starved = t.starved; starved_are = t.starved_are; stated = t.stated; written = stays _ t.written; to_save = t.to_save }

-- work that was done writes all
writes_all : (status : Status) (text draft : List ℕ) (before now : Option (List ℕ)) → is_work_done status ≡ true → Writes status text draft before now → Appends before now text
writes_all status text draft before now work written = search rules

-- and is a fault at most of the save
may_save : (status : Status) (c : Command) (w : World) → is_work_done status ≡ true → MayFail status c w → status ≡ SaveFault
may_save status c w work may = search rules

-- what a command did over a source that is at its end tells this, where it writes the same whatever it read
pub Told-behaves : (c : Command) (answer : Result (List ℕ) Status) (given : List ℕ → Type 0) (out out_now : Option (List ℕ)) (status : Status) {known now : Option Files} → is_work_done status ≡ true → (b : Behaves c status (seen (Some []) out known) (seen (Some []) out_now now))
    → ((w : World) (starved taken : List ℕ) → (meaning c).text w starved taken ≡ (meaning c).text w starved w.input) → given [] → IsLoaded (meaning c).loads answer (b.world.files (meaning c).name) → Told c answer given out out_now status ((meaning c).saved b.world b.starved)
Told-behaves c answer given out out_now status work b same none loaded = record {
  world = b.world;
  loaded = loaded;
  input = subst given b.exposed.input none;
  starved = b.starved;
  starved_are = b.starved_are;
  stated = elim b.stated [ inl is ↦ inl is | inr may ↦ inr (may_save status c b.world work may) ];
  written = subst (Appends out out_now) (same b.world b.starved b.taken) (writes_all status _ _ out out_now work b.written);
  to_save = refl;
}

no_save_undone : (status : Status) → is_work_done status ≡ false → status ≡ SaveFault → ⊥
no_save_undone status undone is = true≢false (sym (ap is_work_done is) ∙ undone)

-- of work that was not done nothing is told
pub untold : (status : Status) {P : Type 0} → is_work_done status ≡ false → is_work_done status ≡ true → P
untold status undone work = absurd (true≢false (sym work ∙ undone))

-- ---- what the source gave

module _ {A : Type 0} (S : Source A) (c : Command) where
  -- a command that reads to the end, and loads nothing
  pub Gave-whole : (src src_now : A) (bytes : List ℕ) → (meaning c).loads ≡ false → Gives (S.gave src) (S.gave src_now) bytes → S.ended src_now ≡ true → Gave S c src src_now bytes
  Gave-whole src src_now bytes none given ended = record { given = given; ended = λ to_end. ended; taken = λ loads. absurd (true≢false (sym loads ∙ none)) }

  -- one that does not read to the end
  pub Gave-part : (src src_now : A) (bytes : List ℕ) → (meaning c).loads ≡ false → (meaning c).to_end ≡ false → Gives (S.gave src) (S.gave src_now) bytes → Gave S c src src_now bytes
  Gave-part src src_now bytes none part given = record { given = given; ended = λ to_end. absurd (true≢false (sym to_end ∙ part)); taken = λ loads. absurd (true≢false (sym loads ∙ none)) }

  -- one that reads nothing
  pub Gave-none : (src : A) (bytes : List ℕ) → (meaning c).to_end ≡ false → bytes ≡ [] → Gave S c src src bytes
  Gave-none src bytes part is =
      subst (Gave S c src src) (sym is) (record { given = Gives-none (S.gave src); ended = λ to_end. absurd (true≢false (sym to_end ∙ part)); taken = λ loads. Takes-none (S.contents src) })

-- ---- at most one save, behind a load

module _ {F : Type 0} (saves : F → List ℕ → List ℕ → Bool → F → Type 0) (faults : F → ℕ) (c : Command) (answer : Result (List ℕ) Status) where
  -- what the source gave is told in other words
  pub SavesOnce-by : (given also : List ℕ → Type 0) (out out_now : Option (List ℕ)) (status : Status) (before now : F) → ((bytes : List ℕ) → given bytes → also bytes) → SavesOnce saves faults c answer given out out_now status before now → SavesOnce saves faults c answer also out out_now status before now
  SavesOnce-by given also out out_now status before now more once = record { file = once.file; told = λ work. Told-by more (once.told work); save = once.save }

  -- no work was done
  pub SavesOnce-none : (given : List ℕ → Type 0) (out out_now : Option (List ℕ)) (status : Status) (shelf : F) → is_work_done status ≡ false → SavesOnce saves faults c answer given out out_now status shelf shelf
  SavesOnce-none given out out_now status shelf undone = record {
    file = None;
    told = untold status undone;
    save = Makes-none (Saving saves None status) faults ((meaning c).saves && is_work_done status) (status ≡ SaveFault) shelf (ap (λ b. (meaning c).saves && b) undone ∙ and_false (meaning c).saves) (no_save_undone status undone);
  }

  -- the script was not read
  pub SavesOnce-take : (given : List ℕ → Type 0) (out out_now : Option (List ℕ)) (e : TakeError) (shelf : F) → SavesOnce saves faults c answer given out out_now (take_status e) shelf shelf
  SavesOnce-take given out out_now taking.Long shelf = search (rules, SavesOnce-none)
  SavesOnce-take given out out_now e shelf = search (rules, SavesOnce-none)

  -- a command that saves nothing
  pub SavesOnce-told : (given : List ℕ → Type 0) (out out_now : Option (List ℕ)) (status : Status) (shelf : F) → (meaning c).saves ≡ false → IsShelfless status → (is_work_done status ≡ true → Told c answer given out out_now status None) → SavesOnce saves faults c answer given out out_now status shelf shelf
  SavesOnce-told given out out_now status shelf no_save none told = record {
    file = None;
    told = told;
    save = Makes-none (Saving saves None status) faults ((meaning c).saves && is_work_done status) (status ≡ SaveFault) shelf (ap (λ b. b && is_work_done status) no_save) none.no_save;
  }

-- ---- the steps of a call

-- the status of an answer
abbrev status_or : Status → Result (List ℕ) Status → Status
status_or e (Err f) = f
status_or e (Ok bytes) = e

module _ {F : Type 0} (loads : F → List ℕ → Result (List ℕ) Status → F → Type 0) (saves : F → List ℕ → List ℕ → Bool → F → Type 0) (faults : F → ℕ) (c : Command) (given : List ℕ → Type 0) (out out_now : Option (List ℕ)) where
  abbrev step_of : Result (List ℕ) Status → F → F → Type 0
  step_of answer b n = loads b (meaning c).name answer n

  -- where the count did not rise there was no fault of the shelf
  pub Steps-quiet : (status : Status) (before now : F) → Steps loads saves faults c given out out_now status before now → IsQuiet (faults before) (faults now) → IsShelfless status
  Steps-quiet status before now steps quiet =
      let saving = Saving saves steps.once.file status in
      let load = Makes-kept (step_of steps.answer) faults (meaning c).loads (status ≡ LoadFault) before steps.loaded steps.load in
      let save = Makes-kept saving faults ((meaning c).saves && is_work_done status) (status ≡ SaveFault) steps.loaded now steps.once.save in
      record {
        no_load = Makes-quiet (step_of steps.answer) faults (meaning c).loads (status ≡ LoadFault) before steps.loaded (faults before) (faults now) (omega arith) save quiet steps.load;
        no_save = Makes-quiet saving faults ((meaning c).saves && is_work_done status) (status ≡ SaveFault) steps.loaded now (faults before) (faults now) load (omega arith) quiet steps.once.save;
      }

  -- no load, where the command loads nothing
  pub Steps-unshelved : (status : Status) (before now : F) → (meaning c).loads ≡ false → status ≢ LoadFault → SavesOnce saves faults c (Ok []) given out out_now status before now → Steps loads saves faults c given out out_now status before now
  Steps-unshelved status before now no_load none once = record {
    loaded = before;
    answer = Ok [];
    load = Makes-none (step_of (Ok [])) faults (meaning c).loads (status ≡ LoadFault) before no_load none;
    unloaded = λ e is. absurd (cc);
    once = once;
  }

  -- a command without a shelf left it as it was
  pub Steps-none : (status : Status) (shelf : F) → (meaning c).loads ≡ false → (meaning c).saves ≡ false → IsShelfless status → (is_work_done status ≡ true → Told c (Ok []) given out out_now status None) → Steps loads saves faults c given out out_now status shelf shelf
  Steps-none status shelf no_load no_save none told =
      Steps-unshelved status shelf shelf no_load none.no_load (SavesOnce-told saves faults c (Ok []) given out out_now status shelf no_save none told)

  -- a load that was good, and at most one save
  pub Steps-once : (bytes : List ℕ) (name : List ℕ) (status : Status) (before loaded now : F) → (meaning c).loads ≡ true → (meaning c).name ≡ name → loads before name (Ok bytes) loaded → faults before ≤ faults loaded → status ≢ LoadFault → SavesOnce saves faults c (Ok bytes) given out out_now status loaded now → Steps loads saves faults c given out out_now status before now
  Steps-once bytes name status before loaded now loading named step kept none once = record {
    loaded = loaded;
    answer = Ok bytes;
    load = subst (λ b. Makes b (step_of (Ok bytes)) faults (status ≡ LoadFault) before loaded) (sym loading) (subst (λ n. loads before n (Ok bytes) loaded) (sym named) step, (kept, λ is. absurd (none is)));
    unloaded = λ e is. absurd (cc);
    once = once;
  }

  -- a load that was not
  pub Steps-unloaded : (name : List ℕ) (status : Status) (before now : F) → (meaning c).loads ≡ true → (meaning c).name ≡ name → loads before name (Err status) now → HasCause (status ≡ LoadFault) (faults before) (faults now) → is_work_done status ≡ false → Steps loads saves faults c given out out_now status before now
  Steps-unloaded name status before now loading named step cause undone = record {
    loaded = now;
    answer = Err status;
    load = subst (λ b. Makes b (step_of (Err status)) faults (status ≡ LoadFault) before now) (sym loading) (subst (λ n. loads before n (Err status) now) (sym named) step, cause);
    unloaded = λ why is. let same : status ≡ why = ap (status_or status) is in (same, ap is_work_done (sym same) ∙ undone);
    once = SavesOnce-none saves faults c (Err status) given out out_now status now undone;
  }

  -- the same steps once what was written was handed on or not, of a command that saves nothing
  pub Steps-sent : (mid : Option (List ℕ)) (status ended : Status) (before now : F) {Failed : Type 0} → (meaning c).saves ≡ false → EndsSent status ended Failed → ((text : List ℕ) → Appends out mid text → Appends out out_now text) → Steps loads saves faults c given out mid status before now
      → Steps loads saves faults c given out out_now ended before now
  Steps-sent mid status ended before now {Failed} no_save ends stays steps = elim ends [
    | inl same ↦ subst (λ s. Steps loads saves faults c given out out_now s before now) (sym same) (record {
      loaded = steps.loaded;
      answer = steps.answer;
      load = steps.load;
      unloaded = steps.unloaded;
      once = record { file = steps.once.file; told = λ work. Told-stays stays (steps.once.told work); save = steps.once.save };
    })
    | inr cut ↦ subst (λ s. Steps loads saves faults c given out out_now s before now) (sym cut.0) (record {
      loaded = steps.loaded;
      answer = steps.answer;
      load = Makes-other (step_of steps.answer) faults (meaning c).loads (status ≡ LoadFault) (WriteFault ≡ LoadFault) before steps.loaded (λ is. absurd (cc)) steps.load;
      unloaded = λ why is. let because = steps.unloaded why is in absurd (not_done why because.1 (subst IsDone because.0 cut.1));
      once = record {
        file = None;
        told = untold WriteFault refl;
        save =
            let off = ap (λ b. b && is_work_done status) no_save in
            let none = subst (λ b. Makes b (Saving saves steps.once.file status) faults (status ≡ SaveFault) steps.loaded now) off steps.once.save in
            subst (λ b. Makes b (Saving saves None WriteFault) faults (WriteFault ≡ SaveFault) steps.loaded now) (sym (and_false (meaning c).saves)) (none.0, λ is. absurd (cc));
      };
    })
  ]
    where
      not_done : (why : Status) → is_work_done why ≡ false → IsDone why → ⊥
      not_done why undone done = search rules

module _ {F : Type 0} {loads : F → List ℕ → Result (List ℕ) Status → F → Type 0} {saves : F → List ℕ → List ℕ → Bool → F → Type 0} {faults : F → ℕ} {c : Command} where
  -- what the source gave is told in other words
  pub Steps-by : (given also : List ℕ → Type 0) {out out_now : Option (List ℕ)} {status : Status} {before now : F} → ((bytes : List ℕ) → given bytes → also bytes) → Steps loads saves faults c given out out_now status before now → Steps loads saves faults c also out out_now status before now
  Steps-by given also more steps =
      record { loaded = steps.loaded; answer = steps.answer; load = steps.load; unloaded = steps.unloaded; once = SavesOnce-by saves faults c steps.answer given also _ _ _ _ _ more steps.once }

-- a file of zeros was saved, or not
module _ {F : Type 0} (loads : F → List ℕ → Result (List ℕ) Status → F → Type 0) (saves : F → List ℕ → List ℕ → Bool → F → Type 0) (faults : F → ℕ) (name : List ℕ) (ty : Ty) (ns : List ℕ) (b : ℕ) where
  pub Steps-new : (out : Option (List ℕ)) (status : Status) (before now : F) (bytes : List ℕ) → bytes ≡ file_of (zeros ty ns b) → is_work_done status ≡ true → (status ≡ Done) ⊎ (status ≡ SaveFault) → status ≢ LoadFault → saves before name bytes (is_saved status) now → HasCause (status ≡ SaveFault) (faults before) (faults now)
      → Steps loads saves faults (New name ty ns b) (λ bytes. bytes ≡ []) out out status before now
  Steps-new out status before now bytes is work ends no_load step cause = Steps-unshelved loads saves faults (New name ty ns b) (λ bytes. bytes ≡ []) out out status before now refl no_load (record {
    file = Some (name, file_of (zeros ty ns b));
    told = λ work. record { world = record { input = []; files = λ other. None }; loaded = tt; input = refl; starved = []; starved_are = refl; stated = ends; written = Appends-none out; to_save = refl };
    save = subst (λ t. Makes t (Saving saves (Some (name, file_of (zeros ty ns b))) status) faults (status ≡ SaveFault) before now) (sym work) (subst (λ bs. saves before name bs (is_saved status) now) is step, cause);
  })
