-- What `compress_narrow` and `restore_narrow` answer and write for an input, and how they end.
use Rattle.std.specs.Prelude.{ℕ, ◌≡◌, ◌≢◌, ◌+◌, ◌-◌, ◌*◌, ◌/◌, ◌%◌, min, ◌⊎◌, List, [], Option, Some, None}
use Rattle.std.specs.Prelude.{Result, Ok, Err, IsErrAnd, IfErr, OnOk, OnErr}
use Rattle.zf_spec.specs.Grid.{product}
use Rattle.zf_base.specs.declared.lane.Ty.{Ty}
use Rattle.zf_base.specs.declared.lane.Ty.TheVariants.{I32, I64}
use Rattle.zf_header.specs.declared.header.Header.{Header}
use Rattle.zf_header.specs.declared.header.HeaderFault.{HeaderFault}
use Rattle.zf_header.specs.HeaderFaults.{header_fault}
use Rattle.zf_dev.specs.Source.{Takes, IsAtEnd}
use Rattle.zf_dev.specs.Sink.{Appends, AppendsPrefix}
use Rattle.zf_parse.specs.declared.fault.StreamFault.{StreamFault}
use Rattle.zf_parse.specs.declared.fault.StreamFault.TheVariants as faults
use Rattle.zf_parse.specs.Raw.{length_answer, stream_text}
use Rattle.zf_parse.specs.ReadStreams.{HasGoodHeader}
use Rattle.zf_parse.specs.Parsing.{header_of, restore_answer, restored_text}
use Rattle.zf_stream.specs.Outcomes as outcomes
use Rattle.zf_stream.specs.Headed.{prefix_room}
use Rattle.zf_narrow.specs.declared.narrow.Narrow.{Narrow}
use Rattle.zf_narrow.specs.declared.fault.NarrowFault.{NarrowFault}
use Rattle.zf_narrow.specs.declared.fault.NarrowFault.TheVariants.{NotNarrow, Stream}
use Rattle.zf_narrow.specs.Values.{size_of}
use Rattle.zf_narrow.specs.RawNarrow.{promoted_bytes, demoted_bytes}

-- ---- from narrow values to a stream

-- how many bytes the raw narrow values of an array have
abbrev pub narrow_len : Narrow → Header → ℕ
narrow_len n h = size_of n * product h.shape

-- how many narrow bytes are exposed by so many int32 bytes, of which a last one alone stands for half a value
abbrev pub narrow_count : Narrow → ℕ → ℕ
narrow_count n bytes = bytes / 4 * size_of n + min (bytes % 4) (size_of n - 1)

-- a refusal of these int32 bytes as one of the narrow bytes
abbrev pub narrow_fault : Narrow → StreamFault → StreamFault
narrow_fault n (faults.RawShort bytes) = faults.RawShort (narrow_count n bytes)
narrow_fault n e = e

-- what `compress_narrow` answers for an input of these bytes
abbrev pub compress_narrow_answer : Narrow → Header → List ℕ → Result (Unit {0}) StreamFault
compress_narrow_answer n h bytes = length_answer (narrow_len n h) bytes

-- the stream of the values that stand for the whole narrow values of these bytes, continued with zeros or cut
-- at the array's length
abbrev pub narrow_text : Narrow → Header → List ℕ → List ℕ
narrow_text n h bytes = stream_text h (promoted_bytes n bytes)

-- ---- from a stream to narrow values

-- the answer on a stream of this type whose header is good
abbrev pub answer_of_type : Ty → Result (Unit {0}) StreamFault → Result (Unit {0}) NarrowFault
answer_of_type I32 (Ok done) = Ok done
answer_of_type I32 (Err e) = Err (Stream e)
answer_of_type I64 answer = Err NotNarrow

-- a fault of the header comes before the type, and that before all else
abbrev pub answer_behind : Option HeaderFault → Ty → Result (Unit {0}) StreamFault
    → Result (Unit {0}) NarrowFault
answer_behind (Some f) ty answer = Err (Stream (faults.Header f))
answer_behind None ty answer = answer_of_type ty answer

-- what `restore_narrow` answers for an input of these bytes
abbrev pub restore_narrow_answer : List ℕ → Result (Unit {0}) NarrowFault
restore_narrow_answer bytes = answer_behind (header_fault bytes) (header_of bytes).ty (restore_answer bytes)

-- the narrow values that are read from bytes continued with zeros; nothing where they have no good header
abbrev pub narrow_restored : Narrow → List ℕ → List ℕ
narrow_restored n bytes = demoted_bytes n (restored_text bytes)

-- a fault of a device, or out of memory: what no input determines
abbrev pub IsFromOutside : NarrowFault → Type 0
IsFromOutside NotNarrow = ⊥
IsFromOutside (Stream e) = outcomes.IsFromOutside e

-- such a fault is answered before anything is written
abbrev pub IsBeforeWriting : NarrowFault → Type 0
IsBeforeWriting NotNarrow = Unit {0}
IsBeforeWriting (Stream e) = outcomes.IsBeforeWriting e

-- the answer is the one that is stated for the input, unless it comes from outside
abbrev pub AnswersNarrow : Result (Unit {0}) NarrowFault → Option (List ℕ) → Type 0
AnswersNarrow result None = Unit {0}
AnswersNarrow result (Some input) = (result ≡ restore_narrow_answer input) ⊎ IsErrAnd result IsFromOutside

-- some input has this refusal, or it comes from outside
abbrev pub CanRefuseNarrow : NarrowFault → Type 0
CanRefuseNarrow e = ((input : List ℕ) × (restore_narrow_answer input ≡ Err e)) ⊎ IsFromOutside e

-- the input was read to its end and is a good stream of int32, and its values were written
pub record RestoresNarrow (n : Narrow) (src_before src_now out_before out_now : Option
    (List ℕ)) : Type 0 where
  pub bytes : List ℕ
  pub taken : Takes src_before src_now bytes
  pub ended : IsAtEnd src_now
  pub good : restore_narrow_answer bytes ≡ Ok tt
  pub written : Appends out_before out_now (narrow_restored n bytes)

-- the first bytes were taken and no more, and they begin with a good header of another type
pub record HasWideType (src_before src_now : Option (List ℕ)) : Type 0 where
  pub bytes : List ℕ
  pub first : outcomes.TakesFirst prefix_room src_before src_now bytes
  pub good : header_fault bytes ≡ None
  pub other : (header_of bytes).ty ≢ I32

-- some bytes were read, and a prefix of their values was written, maybe nothing
pub record LeavesNarrowPrefix (n : Narrow) (src_before src_now out_before out_now : Option
    (List ℕ)) : Type 0 where
  pub bytes : List ℕ
  pub taken : Takes src_before src_now bytes
  pub written : AppendsPrefix out_before out_now (narrow_restored n bytes)

-- how a stream is restored to narrow values: the result is the one that is stated for the input; on `Ok` its
-- values were written, and on an error a prefix of
-- them, but nothing where the header is bad or of another type, or where memory was wanting, which is said
-- only behind a good header
pub record RestoredNarrow (n : Narrow) (result : Result (Unit {0}) NarrowFault)
    (src_before src_now out_before out_now : Option (List ℕ)) : Type 0 where
  pub answer : AnswersNarrow result src_before
  pub possible : IfErr result CanRefuseNarrow
  pub ok : OnOk result (RestoresNarrow n src_before src_now out_before out_now)
  pub err : OnErr result (LeavesNarrowPrefix n src_before src_now out_before out_now)
  pub unwritten : IfErr result (λ e. IsBeforeWriting e → Appends out_before out_now [])
  pub other : result ≡ Err NotNarrow → HasWideType src_before src_now
  pub memory : result ≡ Err (Stream faults.Memory) → HasGoodHeader src_before

-- ---- of what a source says that it gave

-- it is a good stream of int32, and its values were written
pub record WritesNarrow (n : Narrow) (gives : List ℕ → Type 0) (out_before out_now : Option
    (List ℕ)) : Type 0 where
  pub bytes : List ℕ
  pub given : gives bytes
  pub good : restore_narrow_answer bytes ≡ Ok tt
  pub written : Appends out_before out_now (narrow_restored n bytes)

-- it has this refusal, or it comes from outside
abbrev pub RefusesNarrow : (List ℕ → Type 0) → NarrowFault → Type 0
RefusesNarrow gives e = ((input : List ℕ) × (gives input × (restore_narrow_answer input ≡ Err e))) ⊎
    IsFromOutside e

-- how it is restored: on `Ok` its values were written, a refusal is that of it, and on an error a prefix of
-- its values was written
pub record RestoredNarrowGiven (n : Narrow) (result : Result (Unit {0}) NarrowFault) (gives : List ℕ → Type 0)
    (out_before out_now : Option (List ℕ)) : Type 0 where
  pub ok : OnOk result (WritesNarrow n gives out_before out_now)
  pub refused : IfErr result (RefusesNarrow gives)
  pub err : OnErr result (outcomes.WritesPrefix (narrow_restored n) gives out_before out_now)
