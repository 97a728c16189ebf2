-- How the calls end.
use Rattle.std.specs.Prelude.{ℕ, ◌≡◌, ◌≢◌, ◌≤◌, ◌<◌, ◌⊎◌, List, ◌++◌, length, take, drop, None, IsSome, Result, Ok, Err}
use Rattle.zf_header.specs.declared.header.Header.{Header}
use Rattle.zf_header.specs.HeaderBits.{IsRate, rate_bytes_of}
use Rattle.zf_header.specs.HeaderFaults.{header_fault}
use Rattle.zf_parse.specs.Raw.{raw_len}
use Rattle.zf_parse.specs.Parsing.{header_of}
use Rattle.zf_lent.specs.Lent.{LeavesPrefix}
use Rattle.zfpi_c.specs.declared.fields.Field.{Field}
use Rattle.zfpi_c.specs.declared.fields.Info.{Info}
use Rattle.zfpi_c.specs.declared.status.Status.{Status}
use Rattle.zfpi_c.specs.declared.status.Status.TheVariants.{Memory, Room}
use Rattle.zfpi_c.specs.Fields.{header_answer, text_said}
use Rattle.zfpi_c.specs.Statuses.{code_of, IsEarly}

-- ---- calls that write

-- the input is a good one, and its text, of so many bytes, stands before what stood behind its place
pub record Writes (stated : Result (Unit {0}) Status) (text before now : List ℕ) (len : ℕ) : Type 0 where
  pub good : stated ≡ Ok tt
  pub len_is : len ≡ length text
  pub written : now ≡ text ++ drop len before

-- the text of a good input has more bytes than there is room for, this many; its first bytes were written
pub record NeedsRoom (stated : Result (Unit {0}) Status) (text before now : List ℕ) (len : ℕ) : Type 0 where
  pub good : stated ≡ Ok tt
  pub len_is : len ≡ length text
  pub more : length before < len
  pub written : now ≡ take (length before) text

-- a status that is no success: there was no memory, or too little room, or the input is refused for this reason. At
-- most a prefix of the text of a prefix of the input stands over the start, nothing where the status is an early one,
-- and all behind it stays; the length is told only where there was too little room
pub record Refuses (stated : Result (Unit {0}) Status) (text : List ℕ → List ℕ) (input before now : List ℕ)
    (len_before len : ℕ) (status : Status) : Type 0 where
  pub cause : (status ≡ Memory) ⊎ (((status ≡ Room) × NeedsRoom stated (text input) before now len)
      ⊎ (stated ≡ Err status))
  pub prefix : LeavesPrefix text input before now
  pub unwritten : IsEarly status → now ≡ before
  pub len_stays : status ≢ Room → len ≡ len_before

-- how a call ends that writes the text of its input: 0 where it did, else the number of a status that holds
pub record Ends (stated : Result (Unit {0}) Status) (text : List ℕ → List ℕ) (input before now : List ℕ)
    (len_before len code : ℕ) : Type 0 where
  pub ok : code ≡ 0 → Writes stated (text input) before now len
  pub err : code ≢ 0 → (status : Status) × (code ≡ code_of status)
      × Refuses stated text input before now len_before len status

-- ---- calls that tell

-- the field says a header; no stream of such an array has more bytes, and at a rate each has so many
pub record IsMost (field : Field) (most : ℕ) : Type 0 where
  pub header : Header
  pub says : header_answer field ≡ Ok header
  pub bound : (raw : List ℕ) → length (text_said field raw) ≤ most
  pub rate : IsRate header.mode → (raw : List ℕ) → length (text_said field raw) ≡ most

-- 0 with that number, or else the number of why the field says no header, and no number is told
pub record TellsMost (field : Field) (before most code : ℕ) : Type 0 where
  pub ok : code ≡ 0 → IsMost field most
  pub err : code ≢ 0 → (status : Status) × (code ≡ code_of status) × (header_answer field ≡ Err status)
      × (most ≡ before)

-- the stream begins with a header, which the field says, and with it how many bytes raw values have, and at a
-- rate the stream
pub record InfoOf (stream : List ℕ) (info : Info) : Type 0 where
  pub good : header_fault stream ≡ None
  pub says : header_answer info.field ≡ Ok (header_of stream)
  pub raw_len_is : info.raw_len ≡ raw_len (header_of stream)
  pub stream_len_is : IsRate (header_of stream).mode → info.stream_len ≡ rate_bytes_of (header_of stream)

-- 0 with what the header says, or 8 where the bytes begin with none, and nothing is told
pub record TellsHeader (stream : List ℕ) (before info : Info) (code : ℕ) : Type 0 where
  pub ok : code ≡ 0 → InfoOf stream info
  pub err : code ≢ 0 → (code ≡ 8) × IsSome (header_fault stream) × (info ≡ before)
