-- How a call that reads from a source and writes to a sink ends. What a device exposes of its bytes is
-- `Some`, else `None`.
use Rattle.std.specs.Prelude.{ℕ, ◌≡◌, ◌≢◌, ◌≤◌, ◌⊎◌, List, ◌++◌, length, take, Option, Some, None, Result, Ok}
use Rattle.std.specs.Prelude.{Err, IsErrAnd, IfErr, OnOk, OnErr}
use Rattle.zf_dev.specs.declared.source.Source.{Ghosts as Source}
use Rattle.zf_dev.specs.declared.sink.Sink.{Ghosts as Sink}
use Rattle.zf_dev.specs.Devices.{Reads, Writes}
use Rattle.zf_dev.specs.Source.{Takes, TakesMoreThan, IsAtEnd}
use Rattle.zf_dev.specs.Sink.{Appends, AppendsPrefix}
use Rattle.zf_parse.specs.Parsing.{restore_answer, restored_text}
use Rattle.zf_parse.specs.ReadStreams.{HasGoodHeader}
use Rattle.zf_parse.specs.declared.fault.StreamFault.{StreamFault}
use Rattle.zf_parse.specs.declared.fault.StreamFault.TheVariants.{RawShort, RawLong, Header, Read, Write}
use Rattle.zf_parse.specs.declared.fault.StreamFault.TheVariants.{Memory}

-- a fault of a device, or out of memory: what no input determines
abbrev pub IsFromOutside : StreamFault → Type 0
IsFromOutside e = (e ≡ Read) ⊎ (e ≡ Write) ⊎ (e ≡ Memory)

-- a call that asks a source alone fails only where the source does
pub record ReadsOnly {A T : Type 0} (S : Source A) (result : Result T StreamFault)
    (old new : A) : Type 0 where
  pub fault : IfErr result (λ e. e ≡ Read)
  pub device : Reads S (result ≡ Err Read) old new

-- and one that asks a sink alone only where the sink does
pub record WritesOnly {A T : Type 0} (O : Sink A) (result : Result T StreamFault) (old new : A) : Type 0 where
  pub fault : IfErr result (λ e. e ≡ Write)
  pub device : Writes O (result ≡ Err Write) old new

-- such a fault is answered before anything is written
abbrev pub IsBeforeWriting : StreamFault → Type 0
IsBeforeWriting (Header f) = Unit {0}
IsBeforeWriting Memory = Unit {0}
IsBeforeWriting e = ⊥

-- the answer is the one that is stated for the input, unless it comes from outside
abbrev pub Answers : {T : Type 0} → Result T StreamFault → Option (List ℕ) → (List ℕ → Result T StreamFault)
    → Type 0
Answers result None answer = Unit {0}
Answers result (Some input) answer = (result ≡ answer input) ⊎ IsErrAnd result IsFromOutside

-- a refusal is the one that is stated for the input, unless it comes from outside
abbrev pub IsRefusal : Option (List ℕ) → (List ℕ → Result (Unit {0}) StreamFault) → StreamFault → Type 0
IsRefusal None answer e = Unit {0}
IsRefusal (Some input) answer e = (answer input ≡ Err e) ⊎ IsFromOutside e

-- some input has this refusal, or it comes from outside
abbrev pub CanRefuse : (List ℕ → Result (Unit {0}) StreamFault) → StreamFault → Type 0
CanRefuse answer e = ((input : List ℕ) × (answer input ≡ Err e)) ⊎ IsFromOutside e

-- what a refusal of raw bytes shows of them: they ended, or more were taken than are wanted
abbrev pub ShowsLength : ℕ → Option (List ℕ) → Option (List ℕ) → StreamFault → Type 0
ShowsLength wanted before now (RawShort n) = IsAtEnd now
ShowsLength wanted before now RawLong = TakesMoreThan before now wanted
ShowsLength wanted before now e = Unit {0}

-- what is said of a refusal of raw bytes, of which so many are wanted, once there was memory
pub record RefusesRaw (answer : List ℕ → Result (Unit {0}) StreamFault) (wanted : ℕ)
    (src_before src_now : Option (List ℕ)) (e : StreamFault) : Type 0 where
  pub refused : IsRefusal src_before answer e
  pub possible : CanRefuse answer e
  pub shows : ShowsLength wanted src_before src_now e
  pub unwanted : e ≢ Memory

-- the input was read to its end and is a good one, and its text was written
pub record Finishes (answer : List ℕ → Result (Unit {0}) StreamFault) (text : List ℕ → List ℕ)
    (src_before src_now out_before out_now : Option (List ℕ)) : Type 0 where
  pub bytes : List ℕ
  pub taken : Takes src_before src_now bytes
  pub ended : IsAtEnd src_now
  pub good : answer bytes ≡ Ok tt
  pub written : Appends out_before out_now (text bytes)

-- some bytes were read, and a prefix of their text was written, maybe nothing
pub record LeavesPrefix (text : List ℕ → List ℕ)
    (src_before src_now out_before out_now : Option (List ℕ)) : Type 0 where
  pub bytes : List ℕ
  pub taken : Takes src_before src_now bytes
  pub written : AppendsPrefix out_before out_now (text bytes)

-- what a source says that it gave is a good input, and its text was written
pub record WritesText (answer : List ℕ → Result (Unit {0}) StreamFault) (text : List ℕ → List ℕ)
    (gives : List ℕ → Type 0) (out_before out_now : Option (List ℕ)) : Type 0 where
  pub bytes : List ℕ
  pub given : gives bytes
  pub good : answer bytes ≡ Ok tt
  pub written : Appends out_before out_now (text bytes)

-- a prefix of its text was written, which the first bytes tell alone: whatever follows them, it is a prefix
-- of that text
pub record WritesPrefix (text : List ℕ → List ℕ) (gives : List ℕ → Type 0)
    (out_before out_now : Option (List ℕ)) : Type 0 where
  pub bytes : List ℕ
  pub lost : List ℕ
  pub given : gives (bytes ++ lost)
  pub written : (rest : List ℕ) → AppendsPrefix out_before out_now (text (bytes ++ rest))

-- what a source says that it gave has this refusal, or it comes from outside
abbrev pub RefusesGiven : {T : Type 0} → (List ℕ → Result T StreamFault) → (List ℕ → Type 0) → StreamFault
    → Type 0
RefusesGiven answer gives e = ((input : List ℕ) × (gives input × (answer input ≡ Err e))) ⊎ IsFromOutside e

-- how raw values are compressed, of which so many bytes are wanted: the result is the one that is stated for
-- the input; on `Ok` its text was written, and on an error a prefix of one, but nothing where memory was
-- wanting
pub record Compressed (stated : List ℕ → Result (Unit {0}) StreamFault) (text : List ℕ → List ℕ) (wanted : ℕ)
    (result : Result (Unit {0}) StreamFault) (src_before src_now out_before out_now : Option (List ℕ)) : Type
    0 where
  pub answer : Answers result src_before stated
  pub possible : IfErr result (CanRefuse stated)
  pub shows : IfErr result (ShowsLength wanted src_before src_now)
  pub ok : OnOk result (Finishes stated text src_before src_now out_before out_now)
  pub err : OnErr result (LeavesPrefix text src_before src_now out_before out_now)
  pub unwritten : result ≡ Err Memory → out_now ≡ out_before

-- the same of what a source says that it gave: on `Ok` the text of that was written, and on an error a prefix
-- of it
pub record CompressedGiven (answer : List ℕ → Result (Unit {0}) StreamFault) (text : List ℕ → List ℕ)
    (result : Result (Unit {0}) StreamFault) (gives : List ℕ → Type 0) (out_before out_now : Option (List ℕ))
    : Type 0 where
  pub ok : OnOk result (WritesText answer text gives out_before out_now)
  pub err : OnErr result (WritesPrefix text gives out_before out_now)

-- how a stream is restored: the result is the one that is stated for the input; on `Ok` its values were
-- written, and on an error a prefix of them, but nothing where the header is bad or memory was wanting, which
-- is said only behind a good header
pub record Restored (result : Result (Unit {0}) StreamFault)
    (src_before src_now out_before out_now : Option (List ℕ)) : Type 0 where
  pub answer : Answers result src_before restore_answer
  pub possible : IfErr result (CanRefuse restore_answer)
  pub ok : OnOk result (Finishes restore_answer restored_text src_before src_now out_before out_now)
  pub err : OnErr result (LeavesPrefix restored_text src_before src_now out_before out_now)
  pub unwritten : IfErr result (λ e. IsBeforeWriting e → out_now ≡ out_before)
  pub memory : result ≡ Err Memory → HasGoodHeader src_before

-- the same of what a source says that it gave: on `Ok` its values were written, a refusal is that of it, and
-- on an error a prefix of its values was written
pub record RestoredGiven (result : Result (Unit {0}) StreamFault) (gives : List ℕ → Type 0)
    (out_before out_now : Option (List ℕ)) : Type 0 where
  pub ok : OnOk result (WritesText restore_answer restored_text gives out_before out_now)
  pub refused : IfErr result (RefusesGiven restore_answer gives)
  pub err : OnErr result (WritesPrefix restored_text gives out_before out_now)

-- these are the first n bytes of what a device exposes, or all where there are fewer
abbrev pub IsPrefix : ℕ → Option (List ℕ) → List ℕ → Type 0
IsPrefix n None bytes = Unit {0}
IsPrefix n (Some all) bytes = bytes ≡ take n all

-- these bytes are the first n of the source, or all where there are fewer, and no more were taken
pub record TakesFirst (n : ℕ) (before now : Option (List ℕ)) (bytes : List ℕ) : Type 0 where
  pub taken : Takes before now bytes
  pub first : IsPrefix n before bytes
  pub within : length bytes ≤ n
