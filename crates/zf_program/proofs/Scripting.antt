-- What a command does that works on a script, once its file is opened.
use Rattle.std.proofs.Common.{rules, ◌≡◌, ℕ, zero, suc, ◌+◌, ◌≤◌, ◌<◌, List, [], ◌∷◌, ◌++◌, length, take, drop, true, Option, Some, Result, Ok, IsOk, is_some, ◌⊎◌, inl, inr, refl, ap, sym, subst, ◌∙◌, arith, append-nil, length-append}
use Rattle.std.{specs.Prelude.{count_by}, proofs.lemmas.Bool.{lt-ltb, le-ltb}}
use Rattle.std.{proofs.lemmas.Grind.{flat_map-append}, proofs.lemmas.List.{take-append-drop}}
use Rattle.std.proofs.Math.Seq.{take-append-add}
use Rattle.zf_dev.{specs.Shelf.{Files, KeepsFiles}, specs.Source.{Takes, IsAtEnd, TakesMoreThan, TakesSome}}
use Rattle.zf_dev.{specs.Sink.{Appends, AppendsPrefix}, specs.declared.faults.TakeError.{TakeError}}
use Rattle.zf_dev.proofs.Appending.{AppendsPrefix-none, AppendsPrefix-all, AppendsPrefix-more}
use Rattle.zf_dev.specs.declared.faults.TakeError.TheVariants as taking
use Rattle.zf_parse.specs.Parsing.{Said}
use Rattle.zf_cached.{specs.Replies.{reply_text}, specs.Steps.{Setting, Session}}
use Rattle.zf_cached.{specs.Runs.{lines_of, run_lines, replies_text}, proofs.Runs.{run_lines-append}}
use Rattle.zf_commands.{specs.Steps.{is_refusal}, specs.Runs.{starved_lines, StopsAt}, proofs.Folding.{stopped-starved}}
use Rattle.zf_words.specs.declared.command.Access.{Access}
use Rattle.zf_program.specs.declared.status.Status.{Status}
use Rattle.zf_words.specs.declared.command.Command.{Command}
use Rattle.zf_program.{specs.Faults.{take_status}, specs.Opened.{opened}}
use Rattle.zf_program.{specs.Loaded.{HoldsFile}, specs.World.{World, ExposesInput, IsExposed, seen}}
use Rattle.zf_program.specs.Scripts.{Answering, lines_status, script_status, script_text, reads_script, sees_script, AreStarved, OnScript, TakesScript, IsRunnable}
use Rattle.zf_program.specs.Accesses.{command_on, reading_of, answers_of, file_of, named}
use Rattle.zf_program.{proofs.HandedOn.{Appends-stays}, specs.Answer.{meaning, cut_draft, MayFail, OfUsed}}
use Rattle.zf_program.specs.Headline.{IsOfCommand, Writes, Saves, Behaves}
use Rattle.zf_program.proofs.Exposed.{some_input, ExposesInput-taken}
use Rattle.zf_program.proofs.Loading.{Unsaved, Saves-unsaved, Saves-kept, files_with, world_with, ExposesFiles-with, opened-held, IsLoading}
use Rattle.zf_program.specs.declared.status.Status.TheVariants as statuses

-- some lines are refused
pub lines_status-some : (n : ℕ) → 1 ≤ n → lines_status n ≡ statuses.Lines n
lines_status-some _ some = search rules

-- statuses where a whole script was run
pub by_lines : (P : Status → Type 0) → P statuses.Done → ((m : ℕ) → P (statuses.Lines m)) → (n : ℕ) → P (lines_status n)
by_lines _ done lines _ = search rules

-- how it ends once the replies were to be handed on, and a file to be saved
pub by_end : {Saving Unsent : Type 0} (P : Status → Type 0) (status end : Status) → (end ≡ status) ⊎ ((end ≡ statuses.SaveFault) × Saving) ⊎ ((end ≡ statuses.WriteFault) × Unsent) → P status → (Saving → P statuses.SaveFault) → (Unsent → P statuses.WriteFault) → P end
by_end P status end how good bad unsent = search rules

-- a command that answers a script so, on what the file of this name is opened as, and saves this, if anything
pub record IsScripted (c : Command) (name : List ℕ) (reading : List ℕ → Result Said Status) (answers : Answering) (filed : Said → List ℕ → List ℕ → Option (List ℕ)) : Type 0 where
  pub loading : IsLoading c name reading
  pub status : (w : World) (starved : List ℕ) → (meaning c).status w starved ≡ script_status answers (opened reading (w.files name)) starved w.input
  pub text : (w : World) (starved taken : List ℕ) → (meaning c).text w starved taken ≡ script_text answers (opened reading (w.files name)) starved w.input
  pub draft : (w : World) (starved : List ℕ) (status : Status) (taken : List ℕ) → (meaning c).draft status ((meaning c).text w starved taken) ≡ cut_draft status ((meaning c).text w starved taken)
  pub starved_are : (w : World) (starved : List ℕ) (status : Status) → OnScript status (AreStarved answers (opened reading (w.files name)) starved w.input) → (meaning c).starved_are status w starved
  pub extent : (status : Status) (input taken : List ℕ) → TakesScript status input taken → (meaning c).extent status input taken
  pub saved : (w : World) (starved : List ℕ) (said : Said) → opened reading (w.files name) ≡ Ok said → (meaning c).saved w starved ≡ named name (filed said starved w.input)
  pub saving : (said : Said) (starved script : List ℕ) → is_some (named name (filed said starved script)) ≡ (meaning c).saves
  pub reads_script_by : (status : Status) → (meaning c).reads status ≡ reads_script status
  pub sees_script_by : (status : Status) → (meaning c).sees_end status ≡ sees_script status
  pub writes_replies : (meaning c).writes ≡ true
  pub reads : (w : World) → IsOk (opened reading (w.files name)) → OfUsed ((meaning c).reads statuses.ReadFault) ((meaning c).opens w)
  pub writes : (w : World) → IsRunnable (opened reading (w.files name)) w → OfUsed (meaning c).writes ((meaning c).works w)
  pub saves : (w : World) → (meaning c).saves ≡ true → IsRunnable (opened reading (w.files name)) w → OfUsed (meaning c).saves ((meaning c).works w)

pub IsScripted-on : (access : Access) (name : List ℕ) → IsScripted (command_on access name) name (reading_of access) (answers_of access) (file_of access)
IsScripted-on _ name = search rules

pub loads-on : (access : Access) (name : List ℕ) → (meaning (command_on access name)).loads ≡ true
loads-on _ name = search rules

pub to_end-on : (access : Access) (name : List ℕ) → (meaning (command_on access name)).to_end ≡ true
to_end-on _ name = search rules

pub name-on : (access : Access) (name : List ℕ) → (meaning (command_on access name)).name ≡ name
name-on _ name = search rules

-- a script of more bytes than a script may have
long_input : (src src_now : Option (List ℕ)) (bytes : List ℕ) → 16777216 < length bytes → Takes src src_now bytes → (input : List ℕ) × ExposesInput src input × (16777216 < length input)
long_input (Some all) (Some left) bytes long takes = (all, refl, omega (arith, ap length takes, length-append bytes left, long))
long_input _ src_now bytes long takes = search rules

module _ (c : Command) (name : List ℕ) (reading : List ℕ → Result Said Status) (answers : Answering) (filed : Said → List ℕ → List ℕ → Option (List ℕ)) (is : IsScripted c name reading answers filed) (known mid : Option Files) (bytes : List ℕ) (said : Said)
    (holds : HoldsFile known name bytes) (opens : reading bytes ≡ Ok said) (kept : KeepsFiles known mid) where
  is_open : opened reading (files_with known bytes name) ≡ Ok said
  is_open = opened-held reading known name bytes holds ∙ opens

  open_ok : IsOk (opened reading (files_with known bytes name))
  open_ok = subst IsOk (sym is_open) refl

  -- the status of a script, by the number of its lines that are refused
  pub status_is : (starved script : List ℕ) → length script ≤ 16777216 → lines_status (count_by is_refusal (answers said starved script).0) ≡ (meaning c).status (world_with known bytes script) starved
  status_is starved script most = search (rules, le-ltb, is_open, world_with)

  too_long : (input : List ℕ) → 16777216 < length input → statuses.ScriptLong ≡ (meaning c).status (world_with known bytes input) []
  too_long input long = search (rules, lt-ltb, is_open, world_with)

  -- its text
  pub text_is : (starved script taken : List ℕ) → replies_text (answers said starved script).0 ≡ (meaning c).text (world_with known bytes script) starved taken
  text_is starved script taken = sym (ap (λ file. script_text answers file starved script) is_open) ∙ sym (is.text (world_with known bytes script) starved taken)

  -- and what it saves
  saved_is : (starved script : List ℕ) → (meaning c).saved (world_with known bytes script) starved ≡ named name (filed said starved script)
  saved_is starved script = is.saved (world_with known bytes script) starved said is_open

  -- no line was run, and nothing was written
  unread : (status : Status) (src src_now out : Option (List ℕ)) (input taken : List ℕ) → IsOfCommand status → ExposesInput src input → OnScript status (AreStarved answers (opened reading (files_with known bytes name)) [] input)
      → (status ≡ (meaning c).status (world_with known bytes input) []) ⊎ MayFail status c (world_with known bytes input) → Takes src src_now taken → TakesScript status input taken
      → ((text : List ℕ) → Writes status text (cut_draft status text) out out) → Unsaved status → Behaves c status (seen src out known) (seen src_now out mid)
  unread status src src_now out input taken ends exposed starved_are stated takes extent written un =
      let w = world_with known bytes input in
      let draft = is.draft w [] status taken in
      let all = written ((meaning c).text w [] taken) in
      let drafted = subst (λ draft. Writes status ((meaning c).text w [] taken) draft out out) (sym draft) all in
      search (rules, ExposesFiles-with, Saves-unsaved)

  -- the script was not read to its end
  pub Behaves-untaken : (e : TakeError) (src src_now out : Option (List ℕ)) → (e ≡ taking.Long → TakesMoreThan src src_now 16777216) → TakesSome src src_now → Behaves c (take_status e) (seen src out known) (seen src_now out mid)
  Behaves-untaken taking.Long src src_now out long took = search (rules, long_input, unread, too_long)
  Behaves-untaken taking.Failed src src_now out long took =
      let some = some_input src in
      let may = is.reads (world_with known bytes some.0) open_ok in search (rules, unread, AppendsPrefix-none)
  Behaves-untaken taking.Memory src src_now out long took =
      let some = some_input src in
      let may = is.loading.starves (world_with known bytes some.0) in search (rules, unread, AppendsPrefix-none)

  -- the script was read, and it is not too long
  module _ (script starved : List ℕ) (most : length script ≤ 16777216) (src rest : Option (List ℕ)) (takes : Takes src rest script) (end : IsAtEnd rest) where
    exposed_script : (out : Option (List ℕ)) → IsExposed (seen src out known) (world_with known bytes script)
    exposed_script out = record { input = ExposesInput-taken src rest script takes end; files = ExposesFiles-with known bytes }

    -- it can be run here
    runnable : IsRunnable (opened reading (files_with known bytes name)) (world_with known bytes script)
    runnable = (open_ok, most)

    -- it was run, and it ended so
    ran_so : (status : Status) (out out_now : Option (List ℕ)) (shelf : Option Files) → IsOfCommand status
        → OnScript status (AreStarved answers (opened reading (files_with known bytes name)) starved script) → TakesScript status script script
        → (status ≡ (meaning c).status (world_with known bytes script) starved) ⊎ MayFail status c (world_with known bytes script)
        → Writes status ((meaning c).text (world_with known bytes script) starved script) ((meaning c).draft status ((meaning c).text (world_with known bytes script) starved script)) out out_now
        → Saves ((meaning c).saved (world_with known bytes script) starved) status known shelf
        → Behaves c status (seen src out known) (seen rest out_now shelf)
    ran_so status out out_now shelf ends open_starved extent stated written saved = record {
      ends = ends;
      world = world_with known bytes script;
      exposed = exposed_script out;
      starved = starved;
      starved_are = is.starved_are (world_with known bytes script) starved status open_starved;
      stated = stated;
      taken = script;
      takes = takes;
      extent = is.extent status script script extent;
      written = written;
      saved = saved;
    }

    -- the lines that were out of memory are those that say so, as the file is opened
    open_starved : starved ≡ (answers said starved script).1 → AreStarved answers (opened reading (files_with known bytes name)) starved script
    open_starved starved_are = subst (λ file. AreStarved answers file starved script) (sym is_open) starved_are

    -- all its lines were run, and it ended so
    Behaves-whole : (status : Status) (out out_now : Option (List ℕ)) (shelf : Option Files) → IsOfCommand status → ((P : Type 0) → P → OnScript status P) → TakesScript status script script
        → ((text draft : List ℕ) → Appends out out_now text → Writes status text draft out out_now) → (status ≡ (meaning c).status (world_with known bytes script) starved) ⊎ MayFail status c (world_with known bytes script)
        → starved ≡ (answers said starved script).1 → Appends out out_now (replies_text (answers said starved script).0) → Saves ((meaning c).saved (world_with known bytes script) starved) status known shelf
        → Behaves c status (seen src out known) (seen rest out_now shelf)
    Behaves-whole status out out_now shelf ends on_script extent writes stated starved_are written saved =
        let text = subst (Appends out out_now) (text_is starved script script) written in
        ran_so status out out_now shelf ends (on_script _ (open_starved starved_are)) extent stated (writes _ _ text) saved

    -- so many lines were refused, or none
    Behaves-lines : (n : ℕ) (out out_now : Option (List ℕ)) (shelf : Option Files) → n ≡ count_by is_refusal (answers said starved script).0 → starved ≡ (answers said starved script).1
        → Appends out out_now (replies_text (answers said starved script).0) → Saves ((meaning c).saved (world_with known bytes script) starved) (lines_status n) known shelf → Behaves c (lines_status n) (seen src out known) (seen rest out_now shelf)
    Behaves-lines zero out out_now shelf refused starved_are written saved =
        Behaves-whole statuses.Done out out_now shelf tt (λ P p. p) refl (λ text draft all. all) (inl (ap lines_status refused ∙ status_is starved script most)) starved_are written saved
    Behaves-lines (suc n) out out_now shelf refused starved_are written saved =
        Behaves-whole (statuses.Lines (suc n)) out out_now shelf tt (λ P p. p) refl (λ text draft all. all) (inl (ap lines_status refused ∙ status_is starved script most)) starved_are written saved

    -- all its lines were run, and the replies were written but not handed on
    Behaves-unsent : (out out_now : Option (List ℕ)) (shelf : Option Files) → starved ≡ (answers said starved script).1 → Appends out out_now (replies_text (answers said starved script).0)
        → Saves ((meaning c).saved (world_with known bytes script) starved) statuses.WriteFault known shelf → Behaves c statuses.WriteFault (seen src out known) (seen rest out_now shelf)
    Behaves-unsent out out_now shelf starved_are written saved =
        let draft = text_is starved script script ∙ sym (is.draft (world_with known bytes script) starved statuses.WriteFault script) in
        let all = AppendsPrefix-all out out_now (replies_text (answers said starved script).0) written in
        let may = is.writes (world_with known bytes script) runnable in
        ran_so statuses.WriteFault out out_now shelf tt (open_starved starved_are) refl (inr may) (subst (AppendsPrefix out out_now) draft all) saved

    -- all its lines were run, the replies were handed on and a file was saved, if any, unless one of both failed
    pub Behaves-closed : {Unsent : Type 0} (n : ℕ) (end : Status) (out sent out_now : Option (List ℕ)) (shelf : Option Files) → n ≡ count_by is_refusal (answers said starved script).0 → starved ≡ (answers said starved script).1
        → Appends out sent (replies_text (answers said starved script).0) → Appends sent out_now [] → (end ≡ lines_status n) ⊎ ((end ≡ statuses.SaveFault) × (is_some (named name (filed said starved script)) ≡ true)) ⊎ ((end ≡ statuses.WriteFault) × Unsent)
        → Saves (named name (filed said starved script)) end mid shelf → Behaves c end (seen src out known) (seen rest out_now shelf)
    Behaves-closed n end out sent out_now shelf refused starved_are written stays ends saves =
        let file = named name (filed said starved script) in
        let text = Appends-stays out sent out_now (replies_text (answers said starved script).0) written stays in
        let saved = λ (status : Status) (saves : Saves file status mid shelf).
        subst (λ f. Saves f status known shelf) (sym (saved_is starved script)) (Saves-kept file status known mid shelf kept saves) in search (rules, by_end, Behaves-lines, Behaves-whole, world_with, runnable, Behaves-unsent)

    -- a reply was not written whole
    module _ {Code : Type 0} (setting : Setting Code) (start : Session Code) (same : (run_lines setting starved 0 (lines_of script) start).1 ≡ (answers said starved script).0)
        (starved_same : starved_lines setting starved 0 (lines_of script) start ≡ (answers said starved script).1) where
      -- the text of the first lines is a prefix of the text of all
      prefix_of_text : (n : ℕ) → (more : List ℕ) × (replies_text (answers said starved script).0 ≡ replies_text (run_lines setting starved 0 (take n (lines_of script)) start).1 ++ more)
      prefix_of_text n =
          let all = lines_of script in
          let prefix = run_lines setting starved 0 (take n all) start in
          let behind = run_lines setting starved (0 + length (take n all)) (drop n all) prefix.0 in (
            replies_text behind.1,
            ap replies_text (sym same)
                ∙ (ap (λ ls. replies_text (run_lines setting starved 0 ls start).1) (sym (take-append-drop n all))
                ∙ (ap (λ r. replies_text r.1) (run_lines-append setting starved 0 (take n all) (drop n all) start)
                ∙ flat_map-append reply_text prefix.1 behind.1)),
          )

      pub Behaves-cut_script : (now : Session Code) (out out_now : Option (List ℕ)) → StopsAt setting starved script start now out out_now → Behaves c statuses.WriteFault (seen src out known) (seen rest out_now mid)
      Behaves-cut_script now out out_now stops =
          let first = replies_text (run_lines setting starved 0 (take stops.at (lines_of script)) start).1 in
          let reply = reply_text stops.reply in
          let prefix = prefix_of_text (stops.at + 1) in
          let one : replies_text (stops.reply ∷ []) ≡ reply = append-nil reply in
          let replied : replies_text (run_lines setting starved 0 (take (stops.at + 1) (lines_of script)) start).1 ≡ first ++ reply =
          ap replies_text stops.replied ∙ (flat_map-append reply_text (run_lines setting starved 0 (take stops.at (lines_of script)) start).1 (stops.reply ∷ []) ∙ ap (λ r. first ++ r) one) in
          let whole : (first ++ reply) ++ prefix.0 ≡ (meaning c).text (world_with known bytes script) starved script =
          ap (λ text. text ++ prefix.0) (sym replied) ∙ (sym prefix.1 ∙ text_is starved script script) in
          let part : AppendsPrefix out out_now (first ++ reply) =
          (length first + stops.count, omega (arith, length-append first reply, stops.not_whole), rw (take-append-add first reply stops.count) stops.written) in
          let kept = Saves-unsaved ((meaning c).saved (world_with known bytes script) starved) statuses.WriteFault known mid tt kept in
          let draft = whole ∙ sym (is.draft (world_with known bytes script) starved statuses.WriteFault script) in
          let more = subst (AppendsPrefix out out_now) draft (AppendsPrefix-more out out_now (first ++ reply) prefix.0 part) in
          ran_so statuses.WriteFault out out_now mid tt (open_starved (stopped-starved setting starved script start now out out_now stops ∙ starved_same)) refl (inr (is.writes (world_with known bytes script) runnable)) more kept
