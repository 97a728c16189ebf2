-- What a command on a script promises on each rung of its way, from what the calls there answer.
use Rattle.std.proofs.Common.{rules, ◌≡◌, ◌≢◌, ℕ, ◌+◌, ◌≤◌, ◌&&◌, ◌⊎◌, Bool, true, false, List, length, Option, Some, None, Ok, inl, inr, refl, ap, sym, subst, ◌∙◌, arith}
use Rattle.std.{proofs.lemmas.Bool.{true≢false}, specs.Prelude.{count_by}}
use Rattle.zf_dev.{specs.Faults.{Rose, IsQuiet, HasCause}, specs.Sink.{Appends}}
use Rattle.zf_dev.specs.Source.{Takes, Gives, IsAtEnd, TakesMoreThan, TakesSome}
use Rattle.zf_dev.{specs.declared.faults.TakeError.{TakeError}, specs.declared.sink.Sink.{Ghosts as Sink}}
use Rattle.zf_dev.specs.declared.source.Source.{Ghosts as Source}
use Rattle.zf_dev.specs.declared.shelf.Shelf.{Ghosts as Shelf}
use Rattle.zf_dev.specs.declared.faults.TakeError.TheVariants as taking
use Rattle.zf_spec.specs.Stream.{mode_number}
use Rattle.zf_header.{specs.declared.header.Header.{Header}, specs.declared.header.HeaderFault.{HeaderFault}}
use Rattle.zf_header.{specs.HeaderBits.{coding}, specs.HeaderFaults.{header_fault}}
use Rattle.zf_parse.specs.Parsing.{header_of}
use Rattle.zf_cached.{specs.Runs.{ended, replies_text}, specs.Steps.{Session}}
use Rattle.zf_commands.{specs.Steps.{is_refusal}, specs.Runs.{RunsAll}}
use Rattle.zf_run.specs.declared.end.RunEnd.TheVariants as ends
use Rattle.zf_words.specs.declared.command.Access.{Access}
use Rattle.zf_program.specs.declared.status.Status.{Status}
use Rattle.zf_program.specs.declared.status.Status.TheVariants.{Header as NoHeader, NotRate, ReadFault, WriteFault, LoadFault, SaveFault}
use Rattle.zf_words.specs.declared.command.Access.TheVariants.{Run, Look}
use Rattle.zf_program.specs.Faults.{take_status}
use Rattle.zf_program.{specs.World.{seen}, specs.Answer.{meaning}, specs.Opened.{opened}, specs.Scripts.{reads_script, sees_script, lines_status, AreStarved, OnScript}}
use Rattle.zf_program.specs.Accesses.{command_on, admits, reading_of, answers_of, file_of, named}
use Rattle.zf_program.{specs.Subjects.{Subject, Ran}, specs.Loaded.{HoldsFile, StandsFor, RefusesFile, IsRefused}}
use Rattle.zf_program.{specs.Sending.{HandsOn}, specs.Statuses.{is_work_done}, specs.Steps.{Gave, Makes, Saving, IsLoaded}, specs.Headline.{Behaves, IsSent}}
use Rattle.zf_program.{specs.Rungs.{WorksOn, Answers, Closes}, proofs.Stepping.{SavesOnce-none, SavesOnce-take, SavesOnce-by}}
use Rattle.zf_program.proofs.Opening.{array_in-header, stream_in-header, array_in-no_rate}
use Rattle.zf_program.proofs.Causes.{HasCauses-refused, HasCauses-untaken, HasCauses-wrote, reads_take}
use Rattle.zf_program.proofs.Stopping.{StopsAtEnd-same, StopsAtEnd-unseen, StaysExact-told}
use Rattle.zf_program.proofs.Loading.{ComesFirst, world_with, found_with, opened-held, Behaves-starved, Behaves-refused}
use Rattle.zf_program.proofs.Scripting.{text_is, status_is as stated_so, by_lines, by_end, IsScripted-on, loads-on, to_end-on, Behaves-untaken, Behaves-closed, Behaves-cut_script}
use Rattle.zf_program.proofs.HandedOn.{Appends-stays, Behaves-stays, cut_sent, IsSent-later, IsSent-cut}

-- ---- files that are refused

-- it has no good header
pub IsRefused-header : (access : Access) (bytes : List ℕ) (fault : HeaderFault) → header_fault bytes ≡ Some fault → IsRefused access bytes (NoHeader fault)
IsRefused-header (Run caching) bytes fault is = record { refusal = tt; why = inl (array_in-header bytes fault is) }
IsRefused-header (Look lines) bytes fault is = record { refusal = tt; why = inl (stream_in-header bytes fault is) }

-- its mode is not admitted
pub IsRefused-mode : (access : Access) (bytes : List ℕ) (h : Header) (number : ℕ) → header_fault bytes ≡ None → h ≡ header_of bytes → admits access h.mode ≡ false → number ≡ mode_number (coding h.mode) → IsRefused access bytes (NotRate number)
IsRefused-mode (Run caching) bytes h number good is not number_is =
    record { refusal = tt; why = inl (array_in-no_rate bytes h number good is (λ b rate. true≢false (sym (ap (admits (Run caching)) rate) ∙ not)) number_is) }
IsRefused-mode (Look lines) bytes h number good is not number_is = absurd (true≢false not)

-- such a status comes before anything was done
pub record Refuses (status : Status) : Type 0 where
  pub first : ComesFirst status
  pub no_read : status ≢ ReadFault
  pub no_write : status ≢ WriteFault
  pub no_load : status ≢ LoadFault
  pub no_save : status ≢ SaveFault
  pub undone : is_work_done status ≡ false

pub refuses : (status : Status) → RefusesFile status → Refuses status
refuses status why = search rules

-- no script that was not read is a fault of a shelf
no_load_taken : (e : TakeError) → take_status e ≢ LoadFault
no_load_taken taking.Long = λ same. cc
no_load_taken e = λ same. cc

no_save_taken : (e : TakeError) → take_status e ≢ SaveFault
no_save_taken taking.Long = λ same. cc
no_save_taken e = λ same. cc

-- what holds where lines of a script were run
on_script : (status : Status) {P : Type 0} → P → OnScript status P
on_script status p = search rules

-- ---- the rungs

module _ {A B C : Type 0} {S : Source A} {O : Sink B} {F : Shelf C} (access : Access) (name : List ℕ) (file : List ℕ) where
  -- the file is not opened
  pub WorksOn-refused : (status : Status) (src : A) (out : B) (shelf : C) → IsRefused access file status → WorksOn O F S (command_on access name) name file status src src out out shelf shelf
  WorksOn-refused status src out shelf refused =
      let c = command_on access name in
      let loading = (IsScripted-on access name).loading in
      let r = refuses status refused.refusal in
      record {
        behaves = λ known holds kept. elim refused.why [
          | inl none ↦ Behaves-refused c name (reading_of access) loading status file (S.contents src) (O.contents out) known (F.files shelf) r.first none holds kept
          | inr memory ↦ subst (λ s. Behaves c s (seen (S.contents src) (O.contents out) known) (seen (S.contents src) (O.contents out) (F.files shelf))) (sym memory)
              (Behaves-starved c name (reading_of access) loading (S.contents src) (O.contents out) known (F.files shelf) kept)
        ];
        causes = HasCauses-refused c status (S.faults src) (O.faults out) r.no_read r.no_write;
        stops = StopsAtEnd-same ((meaning c).reads status) ((meaning c).sees_end status) (S.ends_seen src);
        exact = λ told exact. exact;
        once = λ size. SavesOnce-none F.saves F.faults c (Ok file) _ _ _ status shelf r.undone;
        no_load = r.no_load;
        sent = λ flushed why. flushed;
        still = λ sure. sure;
        sure_saves = λ sure. (r.no_save, sure);
      }

  -- the script was read to its end, and the rest answers it
  pub WorksOn-taken : (script : List ℕ) (status : Status) (src src_now : A) (out out_now : B) (shelf shelf_now : C) → Takes (S.contents src) (S.contents src_now) script → Gives (S.gave src) (S.gave src_now) script → S.ended src_now ≡ true → IsAtEnd (S.contents src_now) → length script ≤ 16777216 → S.faults src ≤ S.faults src_now → S.ends_seen src_now ≤ S.ends_seen src + 1
      → (S.never_fails src → S.never_fails src_now) → Answers O F (command_on access name) name file script status out out_now shelf shelf_now → WorksOn O F S (command_on access name) name file status src src_now out out_now shelf shelf_now
  WorksOn-taken script status src src_now out out_now shelf shelf_now takes gave ended end most rose seen sure a = record {
    behaves = search rules;
    causes = search rules;
    stops = search rules;
    exact = StaysExact-told ((meaning (command_on access name)).to_end) ((meaning (command_on access name)).reads status) (to_end-on access name) a.read;
    once = λ size.
        let c = command_on access name in
        let given : Gave S c src src_now script = record { given = gave; ended = λ to_end. ended; taken = λ loads. takes } in
        SavesOnce-by F.saves F.faults c (Ok file) (λ bytes. bytes ≡ script) (Gave S c src src_now) (O.contents out) (O.contents out_now) status shelf shelf_now (λ bytes is. subst (Gave S c src src_now) (sym is) given) (a.once size most);
    no_load = a.no_load;
    sent = search rules;
    still = search rules;
    sure_saves = a.sure_saves;
  }

  -- it was not
  pub WorksOn-untaken : (s : Subject) (stands : StandsFor s access file) (e : TakeError) (src src_now : A) (out : B) (shelf : C) → (e ≡ taking.Long → TakesMoreThan (S.contents src) (S.contents src_now) 16777216) → TakesSome (S.contents src) (S.contents src_now)
      → HasCause (e ≡ taking.Failed) (S.faults src) (S.faults src_now) → S.ends_seen src_now ≤ S.ends_seen src → (S.never_fails src → (e ≢ taking.Failed) × S.never_fails src_now)
      → WorksOn O F S (command_on access name) name file (take_status e) src src_now out out shelf shelf
  WorksOn-untaken s stands e src src_now out shelf long took cause seen sure =
      let c = command_on access name in
      let is = IsScripted-on access name in
      record {
        behaves = λ known holds kept. Behaves-untaken c name (reading_of access) (answers_of access) (file_of access) is known (F.files shelf) file stands.said holds stands.opened kept e (S.contents src) (S.contents src_now) (O.contents out) long took;
        causes = HasCauses-untaken c e (S.faults src) (S.faults src_now) (O.faults out) (is.reads_script_by (take_status e) ∙ reads_take e) cause sure;
        stops = StopsAtEnd-unseen ((meaning c).reads (take_status e)) ((meaning c).sees_end (take_status e)) (S.ends_seen src) (S.ends_seen src_now) (is.reads_script_by (take_status e) ∙ reads_take e) seen;
        exact = StaysExact-told ((meaning c).to_end) ((meaning c).reads (take_status e)) (to_end-on access name) (is.reads_script_by (take_status e) ∙ reads_take e);
        once = λ size. SavesOnce-take F.saves F.faults c (Ok file) _ _ _ e shelf;
        no_load = no_load_taken e;
        sent = λ flushed why. flushed;
        still = λ sure. sure;
        sure_saves = λ sure. (no_save_taken e, sure);
      }

module _ {B C : Type 0} {O : Sink B} {F : Shelf C} (access : Access) (name : List ℕ) (file : List ℕ) (s : Subject) (stands : StandsFor s access file) where
  -- a reply was not written whole
  pub Answers-cut : (script : List ℕ) (last : Option (List ℕ)) (end : Status) (out mid out_now : B) (shelf : C) → Ran s script (O.contents out) (O.contents mid) last ends.Write → O.faults out ≤ O.faults mid → Rose (O.faults out) (O.faults mid)
      → HandsOn WriteFault end (O.contents mid) (O.contents out_now) (O.faults mid) (O.faults out_now) (O.is_flushed out_now) → Answers O F (command_on access name) name file script end out out_now shelf shelf
  Answers-cut script last end out mid out_now shelf ran kept rose sent =
      let c = command_on access name in
      let is = IsScripted-on access name in
      let cut = cut_sent end sent in
      let At = λ (status : Status). Answers O F c name file script status out out_now shelf shelf in
      subst At (sym cut) (record {
        behaves = λ known src rest holds files_kept takes at_end most.
            Behaves-stays c WriteFault (seen src (O.contents out) known) rest (O.contents mid) (O.contents out_now) (F.files shelf) sent.stays
            (Behaves-cut_script c name (reading_of access) (answers_of access) (file_of access) is known (F.files shelf) file stands.said holds stands.opened files_kept script ran.starved most src rest takes at_end
            s.setting s.start (stands.replies ran.starved script) (stands.starved ran.starved script) ran.last (O.contents out) (O.contents mid) ran.how);
        causes = λ src. HasCauses-wrote c WriteFault src (O.faults out) (O.faults out_now) is.writes_replies (omega (arith, kept, sent.kept)) (λ same. cc) (λ same. omega (arith, rose, sent.kept));
        read = is.reads_script_by WriteFault;
        saw = is.sees_script_by WriteFault;
        once = λ size most. SavesOnce-none F.saves F.faults c (Ok file) _ _ _ WriteFault shelf refl;
        no_load = λ same. cc;
        sent = subst (λ status. IsSent status (IsQuiet (O.faults out) (O.faults out_now)) (O.is_flushed out_now)) cut (IsSent-cut end (O.faults out) (O.faults mid) (O.faults out_now) kept sent);
        still = λ sure. sure;
        sure_saves = λ sure. ((λ same. cc), sure);
      })

  -- all lines were run, so many of them were refused, and the work was closed
  pub Answers-closed : (script starved : List ℕ) (after : Session (List Bool)) (last : Option (List ℕ)) (n : ℕ) (status end : Status) (out mid out_now : B) (shelf shelf_now : C) → RunsAll s.setting starved script s.start after (O.contents out) (O.contents mid) n
      → last ≡ s.filed (ended s.setting after) → O.faults out ≤ O.faults mid → lines_status n ≡ status → Closes O F (named name last) status end mid out_now shelf shelf_now → Answers O F (command_on access name) name file script end out out_now shelf shelf_now
  Answers-closed script starved after last n status end out mid out_now shelf shelf_now ran last_is kept status_is closing =
      let c = command_on access name in
      let is = IsScripted-on access name in
      let said = stands.said in
      let replies_are = stands.replies starved script in
      let file_is : last ≡ file_of access said starved script =
      last_is ∙ (ap (λ t. s.filed (ended s.setting t)) ran.session ∙ stands.file starved script) in
      let closes = subst (λ f. Closes O F (named name f) (lines_status n) end mid out_now shelf shelf_now) file_is
      (subst (λ s. Closes O F (named name last) s end mid out_now shelf shelf_now) (sym status_is) closing) in
      let of_end = λ (P : Status → Type 0). by_end P (lines_status n) end closes.ends in
      record {
        behaves = λ known src rest holds files_kept takes at_end most.
            let written = subst (λ rs. Appends (O.contents out) (O.contents mid) (replies_text rs)) replies_are ran.written in
            Behaves-closed c name (reading_of access) (answers_of access) (file_of access) is known (F.files shelf) file said holds stands.opened files_kept script starved most src rest takes at_end
            n end (O.contents out) (O.contents mid) (O.contents out_now) (F.files shelf_now) (ran.refused_is ∙ ap (count_by is_refusal) replies_are) (ran.starved_are ∙ stands.starved starved script) written closes.stays closes.ends closes.saves;
        causes = λ src. search (rules, by_lines);
        read = is.reads_script_by end ∙ of_end (λ status. reads_script status ≡ true) (by_lines (λ status. reads_script status ≡ true) refl (λ m. refl) n) (λ saving. refl) (λ rose. refl);
        saw = is.sees_script_by end ∙ of_end (λ status. sees_script status ≡ true) (by_lines (λ status. sees_script status ≡ true) refl (λ m. refl) n) (λ saving. refl) (λ rose. refl);
        once = λ size most.
            let holds : HoldsFile None name file = record { held = tt; size = size } in
            let w = world_with None file script in
            let f = named name (file_of access said starved script) in
            let reading = reading_of access in
            let answered = subst (λ rs. Appends (O.contents out) (O.contents mid) (replies_text rs)) replies_are ran.written in
            let written = subst (Appends (O.contents out) (O.contents mid)) (text_is c name reading (answers_of access) (file_of access) is None None file said holds stands.opened tt starved script script) answered in
            let counted = ap lines_status (ran.refused_is ∙ ap (count_by is_refusal) replies_are) ∙ stated_so c name reading (answers_of access) (file_of access) is None None file said holds stands.opened tt starved script most in
            let opens : opened reading (w.files name) ≡ Ok said = opened-held reading None name file holds ∙ stands.opened in
            let starved_are = subst (λ o. AreStarved (answers_of access) o starved script) (sym opens) (ran.starved_are ∙ stands.starved starved script) in
            let stated : is_work_done end ≡ true → (end ≡ (meaning c).status w starved) ⊎ (end ≡ SaveFault) = λ work. elim closes.ends [
              | inl same ↦ inl (same ∙ counted)
              | inr (inl saving) ↦ inr saving.0
              | inr (inr cut) ↦ absurd (true≢false (sym work ∙ ap is_work_done cut.0))
            ] in
            record {
              file = f;
              told = λ work. record {
                world = w;
                loaded = subst (λ b. IsLoaded b (Ok file) (w.files (meaning c).name)) (sym (loads-on access name)) (found_with None (meaning c).name file tt);
                input = refl;
                starved = starved;
                starved_are = is.starved_are w starved end (on_script end starved_are);
                stated = stated work;
                written = Appends-stays (O.contents out) (O.contents mid) (O.contents out_now) ((meaning c).text w starved script) written closes.stays;
                to_save = sym (is.saved w starved said opens);
              };
              save = subst (λ b. Makes (b && is_work_done end) (Saving F.saves f end) F.faults (end ≡ SaveFault) shelf shelf_now) (is.saving said starved script) closes.step;
            };
        no_load = of_end (λ s. s ≢ LoadFault) (by_lines (λ s. s ≢ LoadFault) (λ same. cc) (λ m same. cc) n) (λ saving same. cc) (λ rose same. cc);
        sent = IsSent-later end (O.faults out) (O.faults mid) (O.faults out_now) kept closes.sent;
        still = closes.still;
        sure_saves = closes.sure_saves;
      }
