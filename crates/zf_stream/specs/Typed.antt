-- A stream that is restored where its values are of one type.
use Rattle.std.specs.Prelude.{ℕ, ◌≡◌, ◌≢◌, ◌≤◌, ◌⊎◌, length, Bool, true, false, List, Option, Some, None, Result, Ok, Err}
use Rattle.std.specs.Prelude.{IfOk, IfErr, OnErr}
use Rattle.zf_base.specs.declared.lane.Ty.{Ty}
use Rattle.zf_base.specs.declared.lane.Ty.TheVariants.{I32, I64}
use Rattle.zf_header.specs.HeaderFaults.{header_fault}
use Rattle.zf_dev.specs.Source.{Takes, IsAtEnd}
use Rattle.zf_dev.specs.Sink.{Appends}
use Rattle.zf_parse.specs.declared.fault.StreamFault.{StreamFault}
use Rattle.zf_parse.specs.declared.fault.StreamFault.TheVariants as faults
use Rattle.zf_parse.specs.ReadStreams.{HasGoodHeader}
use Rattle.zf_stream.specs.Outcomes.{Answers, IsFromOutside, IsBeforeWriting, LeavesPrefix, TakesFirst}
use Rattle.zf_stream.specs.Outcomes.{RefusesGiven, WritesPrefix}
use Rattle.zf_stream.specs.Headed.{prefix_room}
use Rattle.zf_parse.specs.Parsing.{header_of, restore_answer, restored_text}

-- a good stream is of the wanted type
abbrev pub with_true : Result (Unit {0}) StreamFault → Result Bool StreamFault
with_true (Ok done) = Ok true
with_true (Err e) = Err e

-- the answer where the wanted type is the one of the stream, and where it is the other
abbrev pub answer_of_types : Ty → Ty → Result (Unit {0}) StreamFault → Result Bool StreamFault
answer_of_types I32 I32 answer = with_true answer
answer_of_types I64 I64 answer = with_true answer
answer_of_types I32 I64 answer = Ok false
answer_of_types I64 I32 answer = Ok false

-- what `restore_where` answers for an input of these bytes: a fault of the header comes first, then the type
abbrev pub typed_answer : Ty → List ℕ → Result Bool StreamFault
typed_answer wanted bytes = elim (header_fault bytes) [
  | Some f ↦ Err (faults.Header f)
  | None ↦ answer_of_types wanted (header_of bytes).ty (restore_answer bytes)
]

-- some input has this refusal, or it comes from outside
abbrev pub CanRefuseTyped : Ty → StreamFault → Type 0
CanRefuseTyped wanted e = ((input : List ℕ) × (typed_answer wanted input ≡ Err e)) ⊎ IsFromOutside e

-- the input was read to its end and is a good stream of the wanted type, and its text was written
pub record RestoresTyped (wanted : Ty)
    (src_before src_now out_before out_now : Option (List ℕ)) : Type 0 where
  pub bytes : List ℕ
  pub taken : Takes src_before src_now bytes
  pub ended : IsAtEnd src_now
  pub good : typed_answer wanted bytes ≡ Ok true
  pub written : Appends out_before out_now (restored_text bytes)

-- the first bytes were taken and no more, which begin with a good header of another type; nothing was written
pub record HasOtherType (wanted : Ty) (src_before src_now out_before out_now : Option (List ℕ)) : Type 0 where
  pub bytes : List ℕ
  pub first : TakesFirst prefix_room src_before src_now bytes
  pub good : header_fault bytes ≡ None
  pub other : (header_of bytes).ty ≢ wanted
  pub unwritten : out_now ≡ out_before

-- the stream is of the wanted type and was restored, or of the other
abbrev pub RestoresWhere : Ty → Bool → Option (List ℕ) → Option (List ℕ) → Option (List ℕ) → Option (List ℕ)
    → Type 0
RestoresWhere wanted true src_before src_now out_before out_now =
    RestoresTyped wanted src_before src_now out_before out_now
RestoresWhere wanted false src_before src_now out_before out_now =
    HasOtherType wanted src_before src_now out_before out_now

-- how a stream is restored where its values are of one type
pub record RestoredWhere (wanted : Ty) (result : Result Bool StreamFault)
    (src_before src_now out_before out_now : Option (List ℕ)) : Type 0 where
  pub answer : Answers result src_before (typed_answer wanted)
  pub possible : IfErr result (CanRefuseTyped wanted)
  pub ok : IfOk result (λ is. RestoresWhere wanted is src_before src_now out_before out_now)
  pub err : OnErr result (LeavesPrefix restored_text src_before src_now out_before out_now)
  pub unwritten : IfErr result (λ e. IsBeforeWriting e → out_now ≡ out_before)
  pub memory : result ≡ Err faults.Memory → HasGoodHeader src_before

-- ---- of what a source says that it gave

-- it is a good stream of the wanted type, and its text was written
pub record WritesTyped (wanted : Ty) (gives : List ℕ → Type 0) (out_before out_now : Option
    (List ℕ)) : Type 0 where
  pub bytes : List ℕ
  pub given : gives bytes
  pub good : typed_answer wanted bytes ≡ Ok true
  pub written : Appends out_before out_now (restored_text bytes)

-- it is no more than a header is looked for in, and begins with one of another type; nothing was written
pub record GivesOtherType (wanted : Ty) (gives : List ℕ → Type 0) (out_before out_now : Option
    (List ℕ)) : Type 0 where
  pub bytes : List ℕ
  pub given : gives bytes
  pub few : length bytes ≤ prefix_room
  pub other : typed_answer wanted bytes ≡ Ok false
  pub unwritten : out_now ≡ out_before

abbrev pub WritesWhere : Ty → Bool → (List ℕ → Type 0) → Option (List ℕ) → Option (List ℕ) → Type 0
WritesWhere wanted true gives out_before out_now = WritesTyped wanted gives out_before out_now
WritesWhere wanted false gives out_before out_now = GivesOtherType wanted gives out_before out_now

-- how it is restored where its values are of one type
pub record RestoredWhereGiven (wanted : Ty) (result : Result Bool StreamFault) (gives : List ℕ → Type 0)
    (out_before out_now : Option (List ℕ)) : Type 0 where
  pub ok : IfOk result (λ is. WritesWhere wanted is gives out_before out_now)
  pub refused : IfErr result (RefusesGiven (typed_answer wanted) gives)
  pub err : OnErr result (WritesPrefix restored_text gives out_before out_now)
