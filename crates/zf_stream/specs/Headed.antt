-- The header that a source begins with.
use Rattle.std.specs.Prelude.{ℕ, ◌≡◌, ◌≤◌, length, List, Option, Some}
use Rattle.zf_header.specs.declared.header.Header.{Header}
use Rattle.zf_header.specs.HeaderFaults.{header_fault}
use Rattle.zf_dev.specs.Source.{TakesAtMost}
use Rattle.zf_parse.specs.declared.fault.StreamFault.{StreamFault}
use Rattle.zf_parse.specs.declared.fault.StreamFault.TheVariants as faults
use Rattle.zf_parse.specs.ReadStreams.{BeginsWithHeader}
use Rattle.zf_stream.specs.Outcomes.{TakesFirst}

-- the bytes that the longest header lies in
abbrev pub header_room : ℕ
header_room = 19

-- the bytes that are taken before the type is looked at: three words, in which the longest header lies
abbrev pub prefix_room : ℕ
prefix_room = 24

-- the first bytes of the source were taken, and they begin with this header
pub record ReadsHeader (before now : Option (List ℕ)) (h : Header) (bits : ℕ) : Type 0 where
  pub bytes : List ℕ
  pub first : TakesFirst header_room before now bytes
  pub begun : BeginsWithHeader bytes h bits

-- no header was read: the first bytes of the source have this fault, or the source failed within them
abbrev pub LacksHeader : Option (List ℕ) → Option (List ℕ) → StreamFault → Type 0
LacksHeader before now (faults.Header f) = (bytes : List ℕ) × TakesFirst header_room before now bytes ×
    (header_fault bytes ≡ Some f)
LacksHeader before now faults.Read = TakesAtMost before now header_room
LacksHeader before now e = ⊥

-- ---- of what a source says that it gave

-- it is no more than the longest header lies in, and begins with this one
pub record GivesHeader (gives : List ℕ → Type 0) (h : Header) (bits : ℕ) : Type 0 where
  pub bytes : List ℕ
  pub given : gives bytes
  pub few : length bytes ≤ header_room
  pub begun : BeginsWithHeader bytes h bits

-- no header was read: it is no more, and has this fault, or the source failed
abbrev pub GivesNoHeader : (List ℕ → Type 0) → StreamFault → Type 0
GivesNoHeader gives (faults.Header f) = (bytes : List ℕ) × (gives bytes × ((length bytes ≤ header_room) ×
    (header_fault bytes ≡ Some f)))
GivesNoHeader gives faults.Read = (bytes : List ℕ) × gives bytes
GivesNoHeader gives e = ⊥
