-- An array that is restored slab by slab: how far its codes were read, and its values written. The codes are
-- those of the bits that were left in a window, and of the bytes that were taken of the source behind them.
use Rattle.std.specs.Prelude.{ℕ, zero, suc, ◌≡◌, ◌+◌, ◌-◌, ◌*◌, ◌/◌, ◌<◌, ◌≤◌, ◌⊎◌, ℤ, Bool, true, List, [], ◌++◌}
use Rattle.std.specs.Prelude.{map, length, drop, Option, Some, None, Result, Ok, Err, IfErr, OnOk, OnErr}
use Rattle.std.specs.Result.{result_map_both}
use Rattle.zf_spec.specs.Grid.{blocks, upto, extent_of, block_of, blocks_of}
use Rattle.zf_spec.specs.Codes.{existing_values}
use Rattle.zf_spec.specs.Stream.{to_bits}
use Rattle.zf_pad.specs.Slabs.{row_len, IsSlab, first_block}
use Rattle.zf_pad.specs.Stored.{AppendsBlock}
use Rattle.zf_bits.specs.Reader.{Reader, rest}
use Rattle.zf_base.specs.Widths.{width_of}
use Rattle.zf_header.specs.declared.header.Header.{Header}
use Rattle.zf_dev.specs.declared.source.Source.{Ghosts as Source}
use Rattle.zf_dev.specs.declared.sink.Sink.{Ghosts as Sink}
use Rattle.zf_dev.specs.Devices.{Reads, Writes}
use Rattle.zf_dev.specs.Source.{Takes, Gives}
use Rattle.zf_dev.specs.Sink.{Appends, AppendsPrefix}
use Rattle.zf_parse.specs.declared.fault.StreamFault.{StreamFault}
use Rattle.zf_parse.specs.declared.fault.StreamFault.TheVariants as faults
use Rattle.zf_parse.specs.Raw.{raw_bytes}
use Rattle.zf_parse.specs.Parsing.{read_code, read_codes, said_behind, text_behind, restore_answer}
use Rattle.zf_parse.specs.Parsing.{restored_text}
use Rattle.zf_stream.specs.Outcomes.{Answers, Finishes, LeavesPrefix, RestoredGiven, IsFromOutside}
use Rattle.zf_stream.specs.Outcomes.{IsBeforeWriting}
use Rattle.zf_parse.specs.ReadStreams.{BeginsWithHeader}
use Rattle.zf_stream.specs.Headed.{prefix_room}
use Rattle.zf_stream.specs.Drawing.{Draws, DrawsSome, IsSpent}
use Rattle.zf_stream.specs.Windows.{Window, left_of, Goes}

-- bytes in front of what is still to come of a device
abbrev pub behind : List ℕ → Option (List ℕ) → Option (List ℕ)
behind prefix None = None
behind prefix (Some left) = Some (prefix ++ left)

-- these bytes, and what a source says that it gave behind them
abbrev pub given_behind : List ℕ → (List ℕ → Type 0) → List ℕ → Type 0
given_behind prefix gives bytes = (more : List ℕ) × ((bytes ≡ prefix ++ more) × gives more)

-- the input behind these bytes was read to its end; all of it is a good stream, whose text was written
pub record FinishesBehind (prefix : List ℕ)
    (src_before src_now out_before out_now : Option (List ℕ)) : Type 0 where
  pub done : Finishes restore_answer restored_text (behind prefix src_before) src_now out_before out_now
  pub more : List ℕ
  pub begins : done.bytes ≡ prefix ++ more

-- some input behind these bytes has this refusal, or it comes from outside
abbrev pub CanRefuseBehind : List ℕ → StreamFault → Type 0
CanRefuseBehind prefix e = ((more : List ℕ) × (restore_answer (prefix ++ more) ≡ Err e)) ⊎ IsFromOutside e

-- how a stream is restored of which these bytes were read, with a good header
pub record RestoredBehind (prefix : List ℕ) (result : Result (Unit {0}) StreamFault)
    (src_before src_now out_before out_now : Option (List ℕ)) : Type 0 where
  pub answer : Answers result (behind prefix src_before) restore_answer
  pub possible : IfErr result (CanRefuseBehind prefix)
  pub ok : OnOk result (FinishesBehind prefix src_before src_now out_before out_now)
  pub err : OnErr result (LeavesPrefix restored_text (behind prefix src_before) src_now out_before out_now)
  pub unwritten : IfErr result (λ e. IsBeforeWriting e → out_now ≡ out_before)

-- how the rest of such a stream is restored from a source to a sink, and what is left of both
pub record RestoringBehind {A B : Type 0} (S : Source A) (O : Sink B) (prefix : List ℕ)
    (result : Result (Unit {0}) StreamFault) (src src_now : A) (out out_now : B) : Type 0 where
  pub outcome : RestoredBehind prefix result
      (S.contents src) (S.contents src_now) (O.contents out) (O.contents out_now)
  pub given : RestoredGiven result (given_behind prefix (Gives (S.gave src) (S.gave src_now)))
      (O.contents out) (O.contents out_now)
  pub ended : OnOk result (S.ended src_now ≡ true)
  pub source : Reads S (result ≡ Err faults.Read) src src_now
  pub sink : Writes O (result ≡ Err faults.Write) out out_now

-- the first bytes of a stream were read, all of it where they are fewer than three words, and a header of so
-- many bits begins them
pub record IsBegun {A : Type 0} (prefix : List ℕ) (h : Header) (bits : ℕ) (S : Source A) (src : A) : Type
    0 where
  pub begun : BeginsWithHeader prefix h bits
  pub few : length prefix ≤ prefix_room
  pub ended : length prefix < prefix_room → IsSpent S src

-- what is still to come, as far as the device exposes it
abbrev pub still : Option (List ℕ) → List ℕ
still None = []
still (Some left) = left

-- the bits of a window that were left, and those of bytes behind them
abbrev pub stream_from : Window → List ℕ → List Bool
stream_from window bytes = left_of window ++ to_bits bytes

-- ---- a slab, which is an array of its own

-- the code of block b was read, and its values were put behind those before
pub record ReadsStored (h : Header) (b : ℕ) (old new : Reader) (before now : List ℤ) : Type 0 where
  pub block : List ℤ
  pub code : read_code (width_of h.ty) h.mode (extent_of h.shape b) (rest old) ≡ Some
      (existing_values (extent_of h.shape b) block, new.at - old.at)
  pub passed : rest new ≡ drop (new.at - old.at) (rest old)
  pub appended : AppendsBlock (extent_of h.shape b) block before now

-- so many codes were read from block b on, one after another
abbrev pub ReadsRun : Header → ℕ → ℕ → Reader → Reader → List ℤ → List ℤ → Type 0
ReadsRun h b zero old new before now = (new ≡ old) × (now ≡ before)
ReadsRun h b (suc n) old new before now = (middle : Reader) × ((values : List ℤ)
    × (ReadsRun h b n old middle before values × ReadsStored h (b + n) middle new values now))

-- its codes were read, which are those of these values
pub record ReadsSlab {A : Type 0} (part : Header) (S : Source A) (src_before src_now : A) (old new : Window)
    (values : List ℤ) : Type 0 where
  pub bytes : List ℕ
  pub goes : Goes S src_before src_now old new bytes
  pub codes : read_codes part 0 (blocks part.shape) (stream_from old bytes) ≡ Ok
      (blocks_of part.shape values, left_of new)

-- the source ends within the code of this block of the array, of which the slab's blocks are those from the
-- first on
pub record CutsSlab {A : Type 0} (part : Header) (first number : ℕ) (S : Source A) (src_before src_now : A)
    (old : Window) : Type 0 where
  pub bytes : List ℕ
  pub drawn : Draws S src_before src_now bytes
  pub ended : IsSpent S src_now
  pub block : ℕ
  pub number_is : number ≡ first + block
  pub codes : read_codes part 0 (blocks part.shape) (stream_from old bytes) ≡ Err block

abbrev pub LacksSlab : {A : Type 0} → Header → ℕ → Source A → A → A → Window → StreamFault → Type 0
LacksSlab part first S src_before src_now old (faults.Truncated number) =
    CutsSlab part first number S src_before src_now old
LacksSlab part first S src_before src_now old faults.Read = DrawsSome S src_before src_now
LacksSlab part first S src_before src_now old e = ⊥

-- ---- the array

-- the blocks of its first rows
abbrev pub blocks_of_rows : List ℕ → ℕ → List ℤ → List (List ℤ)
blocks_of_rows ns rows values = map (block_of ns values) (upto (first_block ns ((rows + 3) / 4)))

-- the codes of its first rows were read, and their values written
pub record Restores {A : Type 0} (h : Header) (rows : ℕ) (S : Source A) (src_before src_now : A)
    (out_before out_now : Option (List ℕ)) (old new : Window) : Type 0 where
  pub whole : IsSlab h.shape 0 rows
  pub bytes : List ℕ
  pub goes : Goes S src_before src_now old new bytes
  pub values : List ℤ
  pub long : length values ≡ row_len h.shape * rows
  pub codes : read_codes h 0 (first_block h.shape ((rows + 3) / 4)) (stream_from old bytes) ≡ Ok
      (blocks_of_rows h.shape rows values, left_of new)
  pub written : Appends out_before out_now (raw_bytes h values)

-- the raw values that are read of bits continued with zeros
abbrev pub text_of_codes : Header → List Bool → List ℕ
text_of_codes h s = text_behind h s

-- what is answered for bits of which so many came before
abbrev pub answer_of_codes : Header → ℕ → List Bool → Result (List ℤ) StreamFault
answer_of_codes h before s = result_map_both (λ said. said.values) (λ e. e)
    (said_behind h (before + length s) s)

-- some bytes were drawn, and maybe more; of the text of the former a prefix was written, whatever follows
-- them
pub record LeavesRows {A : Type 0} (h : Header) (S : Source A) (src_before src_now : A)
    (out_before out_now : Option (List ℕ)) (old : Window) : Type 0 where
  pub bytes : List ℕ
  pub more : List ℕ
  pub taken : Takes (S.contents src_before) (S.contents src_now) (bytes ++ more)
  -- what the source says that it gave, which may end otherwise
  pub lost : List ℕ
  pub given : Gives (S.gave src_before) (S.gave src_now) (bytes ++ lost)
  pub written : (rest : List ℕ) → AppendsPrefix out_before out_now
      (text_of_codes h (stream_from old (bytes ++ rest)))

-- the fault of what was drawn, and of all that was to come, unless it is one of a device
pub record HasFault {A : Type 0} (h : Header) (S : Source A) (src_before src_now : A) (old : Window)
    (e : StreamFault) : Type 0 where
  pub bytes : List ℕ
  pub drawn : Draws S src_before src_now bytes
  pub answer : answer_of_codes h old.reader.at (stream_from old bytes) ≡ Err e
  pub answer_of_all : answer_of_codes h old.reader.at
      (stream_from old (bytes ++ still (S.contents src_now))) ≡ Err e

abbrev pub Refuses : {A : Type 0} → Header → Source A → A → A → Window → StreamFault → Type 0
Refuses h S src_before src_now old e = HasFault h S src_before src_now old e ⊎
    ((e ≡ faults.Read) ⊎ (e ≡ faults.Write))

-- all that was to come was drawn and is good, and its text was written
pub record RestoresAll {A : Type 0} (h : Header) (S : Source A) (src_before src_now : A)
    (out_before out_now : Option (List ℕ)) (old : Window) : Type 0 where
  pub bytes : List ℕ
  pub drawn : Draws S src_before src_now bytes
  pub ended : IsSpent S src_now
  pub values : List ℤ
  pub good : answer_of_codes h old.reader.at (stream_from old bytes) ≡ Ok values
  pub written : Appends out_before out_now (raw_bytes h values)
