-- From what a call on a stream promises to what a command promises that hands it on.
use Rattle.std.proofs.Common.{rules, ◌≡◌, ◌≢◌, ℕ, ◌+◌, ◌≤◌, true, false, List, [], ◌∷◌, Option, Some, None, Result, Ok, Err, ◌⊎◌, inl, inr, refl, ap, sym, subst, ◌∙◌}
use Rattle.std.proofs.lemmas.List.{take_all}
use Rattle.zf_dev.{specs.Faults.{HasCause}, specs.Shelf.{Files}, specs.declared.sink.Sink.{Ghosts as Sink}}
use Rattle.zf_dev.{specs.declared.source.Source.{Ghosts as Source}, specs.Source.{Takes, IsAtEnd}}
use Rattle.zf_dev.{specs.Sink.{Appends, AppendsPrefix}, proofs.Appending.{AppendsPrefix-none}}
use Rattle.zf_header.{specs.declared.header.Header.{Header}, specs.HeaderFaults.{header_fault}}
use Rattle.zf_header.specs.declared.header.Mode.TheVariants.{Reversible}
use Rattle.zf_base.{specs.declared.lane.Ty.{Ty}, specs.declared.lane.Ty.TheVariants.{I32}}
use Rattle.zf_parse.{specs.declared.fault.StreamFault.{StreamFault}, specs.Raw.{stream_text}}
use Rattle.zf_parse.{specs.Parsing.{header_of}, proofs.Parsed.{good_header}}
use Rattle.zf_parse.proofs.StreamsBack.{answer-stream_text}
use Rattle.zf_parse.specs.declared.fault.StreamFault.TheVariants as faults
use Rattle.zf_stream.specs.Outcomes as streams
use Rattle.zf_stream.specs.Headed.{prefix_room}
use Rattle.zf_narrow.{specs.declared.narrow.Narrow.{Narrow}, specs.declared.fault.NarrowFault.{NarrowFault}}
use Rattle.zf_narrow.specs.declared.fault.NarrowFault.TheVariants.{NotNarrow, Stream}
use Rattle.zf_narrow.specs.Texts.{restore_narrow_answer, answer_of_type, HasWideType, narrow_restored, IsFromOutside, IsBeforeWriting, AnswersNarrow, CanRefuseNarrow}
use Rattle.zf_words.specs.declared.command.Command.{Command}
use Rattle.zf_program.specs.declared.status.Status.{Status}
use Rattle.zf_words.specs.declared.command.Command.TheVariants.{Compress, CompressNarrow, Restore, RestoreNarrow}
use Rattle.zf_program.specs.Faults.{fault_status, narrow_status, status_of, narrow_status_of}
use Rattle.zf_program.{specs.Statuses.{is_work_done}, specs.Steps.{IsLoaded, Gave, Told}, proofs.Stepping.{untold}}
use Rattle.zf_words.proofs.Completed.{one_value}
use Rattle.zf_program.{specs.World.{World, ExposesInput, seen}, specs.Calls.{Streams}}
use Rattle.zf_program.specs.Answer.{meaning, reads_on, TakesStream, MayFail, compress_draft, restore_draft, OfUsed}
use Rattle.zf_program.specs.Headline.{IsOfCommand, Writes, Saves, StaysExact, Behaves}
use Rattle.zf_program.proofs.Exposed.{world_of, ExposesFiles-same, KeepsFiles-none, ExposesInput-taken}
use Rattle.zf_program.specs.declared.status.Status.TheVariants as statuses

-- ---- commands on streams

-- with this status a command ended whose work was not done
pub IsCut : Status → Type 0
IsCut statuses.Done = ⊥
IsCut (statuses.Lines n) = ⊥
IsCut (statuses.Usage k) = ⊥
IsCut statuses.SaveFault = ⊥
IsCut status = Unit {0}

IsOfCommand-cut : (status : Status) → IsCut status → IsOfCommand status
unfolding IsCut
IsOfCommand-cut status cut = search rules

Writes-cut : (status : Status) (text draft : List ℕ) (before now : Option (List ℕ)) → IsCut status → AppendsPrefix before now draft → Writes status text draft before now
unfolding IsCut
Writes-cut statuses.Done text draft before now cut prefix = absurd cut
Writes-cut (statuses.Lines n) text draft before now cut prefix = absurd cut
Writes-cut statuses.SaveFault text draft before now cut prefix = absurd cut
Writes-cut status text draft before now cut prefix = prefix

IsCut-fault : (e : StreamFault) → IsCut (fault_status e)
unfolding IsCut
IsCut-fault e = search rules

TakesStream-fault : (e : StreamFault) (input taken : List ℕ) → TakesStream (fault_status e) input taken
TakesStream-fault e input taken = search rules

-- a command that reads a stream to its end and saves nothing
pub record IsStreaming (c : Command) : Type 0 where
  pub not_starved : (status : Status) (w : World) → (meaning c).starved_are status w []
  pub nothing_saved : (w : World) → (meaning c).saved w [] ≡ None
  pub to_end : (input : List ℕ) → (meaning c).extent statuses.Done input input
  pub cut_extent : (e : StreamFault) (input taken : List ℕ) → (meaning c).extent (fault_status e) input taken
  pub reads : (w : World) → OfUsed ((meaning c).reads statuses.ReadFault) ((meaning c).opens w)
  pub writes : (w : World) → OfUsed (meaning c).writes ((meaning c).works w)

pub IsStreaming-compress : (h : Header) → IsStreaming (Compress h)
IsStreaming-compress h = search (rules, TakesStream-fault)

pub IsStreaming-compress_narrow : (n : Narrow) (h : Header) → IsStreaming (CompressNarrow n h)
IsStreaming-compress_narrow n h = search (rules, TakesStream-fault)

pub IsStreaming-restore : IsStreaming Restore
IsStreaming-restore = search (rules, TakesStream-fault)

pub IsStreaming-restore_narrow : (n : Narrow) → IsStreaming (RestoreNarrow n)
IsStreaming-restore_narrow n = search (rules, TakesStream-fault)

-- what a command did by one call over its source
pub Streams-by : {A B : Type 0} (S : Source A) (O : Sink B) (c : Command) (status : Status) {src src_now : A} {out out_now : B} {Read Write : Type 0} → (meaning c).reads status ≡ true → (meaning c).sees_end status ≡ true → (meaning c).writes ≡ true
    → S.ends_seen src_now ≤ S.ends_seen src + 1 → HasCause Read (S.faults src) (S.faults src_now) → HasCause Write (O.faults out) (O.faults out_now) → (S.never_fails src → (Read → ⊥) × S.never_fails src_now)
    → StaysExact (reads_on (meaning c) status) (S.is_exact src) (S.is_exact src_now) → (status ≡ statuses.ReadFault → Read) → (status ≡ statuses.WriteFault → Write) → (is_work_done status ≡ true → Told c (Ok []) (Gave S c src src_now) (O.contents out) (O.contents out_now) status None) → ((files : Option Files) → Behaves c status (seen (S.contents src) (O.contents out) files) (seen (S.contents src_now) (O.contents out_now) files))
    → Streams S O c status src src_now out out_now
Streams-by S O c status {src} {src_now} {out} {out_now} reads saw writes once reading writing sure exact read write told behaves = search rules

-- of a fault of a stream nothing is told
pub untold_fault : (e : StreamFault) {P : Type 0} → is_work_done (fault_status e) ≡ true → P
untold_fault e work = untold (fault_status e) (undone e) work
  where
    undone : (e : StreamFault) → is_work_done (fault_status e) ≡ false
    undone e = search rules

pub untold_narrow : (e : NarrowFault) {P : Type 0} → is_work_done (narrow_status e) ≡ true → P
untold_narrow NotNarrow work = untold statuses.NotNarrow refl work
untold_narrow (Stream e) work = untold_fault e work

-- and of one that was read to its end, what it gave
pub Told-done : (c : Command) (given : List ℕ → Type 0) (out out_now : Option (List ℕ)) (bytes : List ℕ) → IsStreaming c → (meaning c).loads ≡ false → given bytes → statuses.Done ≡ (meaning c).status (world_of bytes None) [] → Appends out out_now ((meaning c).text (world_of bytes None) [] bytes)
    → Told c (Ok []) given out out_now statuses.Done None
Told-done c given out out_now bytes is unloaded gave stated written =
    let w = world_of bytes None in
    record { world = w; loaded = subst (λ b. IsLoaded b (Ok []) (w.files (meaning c).name)) (sym unloaded) tt; input = gave; starved = []; starved_are = is.not_starved statuses.Done w; stated = inl stated; written = written; to_save = sym (is.nothing_saved w) }

-- a fault of a device is named as such
pub read_named : (e : StreamFault) → fault_status e ≡ statuses.ReadFault → e ≡ faults.Read
read_named faults.Read is = refl
read_named e is = absurd (cc)

pub write_named : (e : StreamFault) → fault_status e ≡ statuses.WriteFault → e ≡ faults.Write
write_named faults.Write is = refl
write_named e is = absurd (cc)

pub narrow_read_named : (e : NarrowFault) → narrow_status e ≡ statuses.ReadFault → e ≡ Stream faults.Read
narrow_read_named _ is = search rules

pub narrow_write_named : (e : NarrowFault) → narrow_status e ≡ statuses.WriteFault → e ≡ Stream faults.Write
narrow_write_named _ is = search rules

-- ---- after Ok

pub Behaves-done : (c : Command) (bytes : List ℕ) (src_before src_now out_before out_now : Option (List ℕ)) (shelf : Option Files) → IsStreaming c
    → statuses.Done ≡ (meaning c).status (world_of bytes shelf) [] → Takes src_before src_now bytes → IsAtEnd src_now → Appends out_before out_now ((meaning c).text (world_of bytes shelf) [] bytes)
    → Behaves c statuses.Done (seen src_before out_before shelf) (seen src_now out_now shelf)
Behaves-done c bytes src_before src_now out_before out_now shelf is stated taken ended written =
    let kept = subst (λ f. Saves f statuses.Done shelf shelf) (sym (is.nothing_saved (world_of bytes shelf))) (KeepsFiles-none shelf) in
    search (rules, ExposesInput-taken, ExposesFiles-same)

-- ---- after a fault

-- the status is stated for this input, or comes from outside
IsStated : Command → Status → Option Files → List ℕ → Type 0
IsStated c status shelf input = (status ≡ (meaning c).status (world_of input shelf) []) ⊎ MayFail status c (world_of input shelf)

-- an input that the source exposes, and which explains the status
record Explains (c : Command) (status : Status) (known : Option (List ℕ)) (shelf : Option Files) : Type 0 where
  input : List ℕ
  exposed : ExposesInput known input
  stated : IsStated c status shelf input

explain : (c : Command) (status : Status) (known : Option (List ℕ)) (shelf : Option Files) → ((input : List ℕ) → known ≡ Some input → IsStated c status shelf input) → (input : List ℕ) × IsStated c status shelf input → Explains c status known shelf
explain c status None shelf exposed some = record { input = some.0; exposed = tt; stated = some.1 }
explain c status (Some input) shelf exposed some = record { input = input; exposed = refl; stated = exposed input refl }

Behaves-cut : (c : Command) (status : Status) (taken : List ℕ) (src_before src_now out_before out_now : Option (List ℕ)) (shelf : Option Files) → IsStreaming c → IsCut status
    → (why : Explains c status src_before shelf) → (meaning c).extent status why.input taken
    → Takes src_before src_now taken → ((w : World) → AppendsPrefix out_before out_now ((meaning c).draft status ((meaning c).text w [] taken)))
    → Behaves c status (seen src_before out_before shelf) (seen src_now out_now shelf)
unfolding IsStated
Behaves-cut c status taken src_before src_now out_before out_now shelf is cut why extent takes prefix =
    let w = world_of why.input shelf in
    let kept = subst (λ file. Saves file status shelf shelf) (sym (is.nothing_saved w)) (KeepsFiles-none shelf) in
    let cut_prefix = prefix w in
    search (rules, IsOfCommand-cut, ExposesFiles-same, Writes-cut)

-- ---- faults of a stream

may_outside : (c : Command) (e : StreamFault) (w : World) → IsStreaming c → (e ≡ faults.Memory → (meaning c).memory w) → streams.IsFromOutside e → MayFail (fault_status e) c w
may_outside c e w is takes outside = search rules

-- a fault is the one that is stated for the input, or for some input where none is exposed. For this input the command takes memory
pub Behaves-fault : (c : Command) (answer : List ℕ → Result (Unit {0}) StreamFault) (e : StreamFault) (large taken : List ℕ) (src_before src_now out_before out_now : Option (List ℕ)) (shelf : Option Files) → IsStreaming c
    → ((w : World) → status_of (answer w.input) ≡ (meaning c).status w []) → streams.Answers (Err e) src_before answer → streams.CanRefuse answer e
    → (meaning c).memory (world_of large shelf) → ((input : List ℕ) → src_before ≡ Some input → e ≡ faults.Memory → (meaning c).memory (world_of input shelf))
    → Takes src_before src_now taken → ((w : World) → AppendsPrefix out_before out_now ((meaning c).draft (fault_status e) ((meaning c).text w [] taken)))
    → Behaves c (fault_status e) (seen src_before out_before shelf) (seen src_now out_now shelf)
unfolding IsStated
Behaves-fault c answer e large taken src_before src_now out_before out_now shelf is status answers refuses has_room takes takes_bytes prefix =
    Behaves-cut c (fault_status e) taken src_before src_now out_before out_now shelf is (IsCut-fault e) why
    (is.cut_extent e why.input taken) takes_bytes prefix
  where
    exposed : (input : List ℕ) → src_before ≡ Some input → IsStated c (fault_status e) shelf input
    exposed input is_exposed = elim (subst (λ known. streams.Answers (Err e) known answer) is_exposed answers) [
      | inl same ↦ inl (ap status_of same ∙ status (world_of input shelf))
      | inr outside ↦ inr (may_outside c e (world_of input shelf) is (takes input is_exposed) outside)
    ]

    some : (input : List ℕ) × IsStated c (fault_status e) shelf input
    some = elim refuses [
      | inl found ↦ (found.0, inl (ap status_of (sym found.1) ∙ status (world_of found.0 shelf)))
      | inr outside ↦ (large, inr (may_outside c e (world_of large shelf) is (λ memory. has_room) outside))
    ]

    why : Explains c (fault_status e) src_before shelf
    why = explain c (fault_status e) src_before shelf exposed some

-- where nothing was written, nothing is a prefix
pub nothing_written : (before now : Option (List ℕ)) → now ≡ before → AppendsPrefix before now []
nothing_written before now same = subst (λ out. AppendsPrefix before out []) (sym same) (AppendsPrefix-none before [])

pub compress_prefix : (e : StreamFault) (text : List ℕ) (before now : Option (List ℕ)) → AppendsPrefix before now text → (e ≡ faults.Memory → now ≡ before) → AppendsPrefix before now (compress_draft (fault_status e) text)
compress_prefix faults.Memory text before now prefix none = nothing_written before now (none refl)
compress_prefix e text before now prefix none = prefix

pub restore_prefix : (e : StreamFault) (text : List ℕ) (before now : Option (List ℕ)) → AppendsPrefix before now text → (streams.IsBeforeWriting e → AppendsPrefix before now []) → AppendsPrefix before now (restore_draft (fault_status e) text)
restore_prefix (faults.Header f) text before now prefix none = none tt
restore_prefix faults.Memory text before now prefix none = none tt
restore_prefix e text before now prefix none = prefix

-- ---- an input for which `restore` takes memory

-- the header of one value, and a stream that has it
one_header : Header
one_header = record { ty = I32; shape = 1 ∷ []; mode = Reversible }

pub one_stream : List ℕ
one_stream = stream_text one_header []

pub one_stream-good : header_fault one_stream ≡ None
unfolding one_header one_stream
one_stream-good = good_header (stream_text one_header []) (answer-stream_text one_header [] (record { shape = one_value; mode = tt }))

-- ---- faults of a stream that is restored to narrow values

IsCut-narrow : (e : NarrowFault) → IsCut (narrow_status e)
unfolding IsCut
IsCut-narrow _ = search rules

pub narrow_prefix : (e : NarrowFault) (text : List ℕ) (before now : Option (List ℕ)) → AppendsPrefix before now text → (IsBeforeWriting e → AppendsPrefix before now []) → AppendsPrefix before now (restore_draft (narrow_status e) text)
narrow_prefix _ text before now prefix none = search rules

may_outside_narrow : (n : Narrow) (e : NarrowFault) (w : World) → (e ≡ Stream faults.Memory → (meaning (RestoreNarrow n)).memory w) → IsFromOutside e → MayFail (narrow_status e) (RestoreNarrow n) w
may_outside_narrow n _ w takes outside = search rules

-- the status is the one that is stated for the input, or for some input where none is exposed
narrow_why : (n : Narrow) (e : NarrowFault) (src_before : Option (List ℕ)) (shelf : Option Files)
    → AnswersNarrow (Err e) src_before → CanRefuseNarrow e
    → ((input : List ℕ) → src_before ≡ Some input → e ≡ Stream faults.Memory → (meaning (RestoreNarrow n)).memory (world_of input shelf))
    → Explains (RestoreNarrow n) (narrow_status e) src_before shelf
unfolding IsStated
narrow_why n e src_before shelf answers refuses takes = explain (RestoreNarrow n) (narrow_status e) src_before shelf exposed some
  where
    exposed : (input : List ℕ) → src_before ≡ Some input → IsStated (RestoreNarrow n) (narrow_status e) shelf input
    exposed input is = let at = subst (λ known. AnswersNarrow (Err e) known) is answers in search (rules, may_outside_narrow)

    some : (input : List ℕ) × IsStated (RestoreNarrow n) (narrow_status e) shelf input
    some = elim refuses [
      | inl found ↦ (found.0, inl (ap narrow_status_of (sym found.1)))
      | inr outside ↦ (one_stream, inr (may_outside_narrow n e (world_of one_stream shelf) (λ memory. one_stream-good) outside))
    ]

wide_type : (ty : Ty) (answer : Result (Unit {0}) StreamFault) → ty ≢ I32 → answer_of_type ty answer ≡ Err NotNarrow
wide_type _ answer other = search rules

wide_answer : (bytes : List ℕ) → header_fault bytes ≡ None → (header_of bytes).ty ≢ I32 → restore_narrow_answer bytes ≡ Err NotNarrow
wide_answer bytes good other = search (rules, wide_type)

-- another type: of an input that is not exposed, the first bytes are all that is known
Behaves-wide : (n : Narrow) (src_before src_now out_before out_now : Option (List ℕ)) (shelf : Option Files)
    → AnswersNarrow (Err NotNarrow) src_before → HasWideType src_before src_now → AppendsPrefix out_before out_now []
    → Behaves (RestoreNarrow n) statuses.NotNarrow (seen src_before out_before shelf) (seen src_now out_now shelf)
unfolding IsStated
Behaves-wide n None src_now out_before out_now shelf answers wide prefix =
    let why : Explains (RestoreNarrow n) statuses.NotNarrow None shelf = search (rules, wide_answer) in
    Behaves-cut (RestoreNarrow n) statuses.NotNarrow wide.bytes None src_now out_before out_now shelf
    (IsStreaming-restore_narrow n) (IsCut-narrow NotNarrow) why
    (sym (take_all prefix_room wide.bytes wide.first.within)) wide.first.taken (λ w. prefix)
Behaves-wide n (Some input) src_now out_before out_now shelf answers wide prefix =
    let why : Explains (RestoreNarrow n) statuses.NotNarrow (Some input) shelf = search rules in
    Behaves-cut (RestoreNarrow n) statuses.NotNarrow wide.bytes (Some input) src_now out_before out_now shelf
    (IsStreaming-restore_narrow n) (IsCut-narrow NotNarrow) why wide.first.first wide.first.taken (λ w. prefix)

pub Behaves-narrow_fault : (n : Narrow) (e : NarrowFault) (taken : List ℕ) (src_before src_now out_before out_now : Option (List ℕ))
    (shelf : Option Files) → AnswersNarrow (Err e) src_before → CanRefuseNarrow e → (e ≡ NotNarrow → HasWideType src_before src_now)
    → ((input : List ℕ) → src_before ≡ Some input → e ≡ Stream faults.Memory → (meaning (RestoreNarrow n)).memory (world_of input shelf))
    → Takes src_before src_now taken → AppendsPrefix out_before out_now (restore_draft (narrow_status e) (narrow_restored n taken))
    → Behaves (RestoreNarrow n) (narrow_status e) (seen src_before out_before shelf) (seen src_now out_now shelf)
Behaves-narrow_fault n NotNarrow taken src_before src_now out_before out_now shelf answers refuses wide takes takes_bytes prefix =
    Behaves-wide n src_before src_now out_before out_now shelf answers (wide refl) prefix
Behaves-narrow_fault n (Stream f) taken src_before src_now out_before out_now shelf answers refuses wide takes takes_bytes prefix =
    let why = narrow_why n (Stream f) src_before shelf answers refuses takes in
    Behaves-cut (RestoreNarrow n) (fault_status f) taken src_before src_now out_before out_now shelf
    (IsStreaming-restore_narrow n) (IsCut-fault f) why (TakesStream-fault f why.input taken) takes_bytes (λ w. prefix)
