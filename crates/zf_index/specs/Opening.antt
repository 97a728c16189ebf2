-- The header of a file that is opened as an array, and why a file is not opened.
use Rattle.std.specs.Prelude.{ℕ, ◌≡◌, ◌≢◌, List, length, Some, None}
use Rattle.zf_base.specs.declared.lane.Ty.{Ty}
use Rattle.zf_header.specs.declared.header.Header.{Header}
use Rattle.zf_header.specs.declared.header.Mode.{Mode}
use Rattle.zf_header.specs.HeaderBits.{IsHeader}
use Rattle.zf_header.specs.HeaderFaults.{header_fault}
use Rattle.zf_parse.specs.Parsing.{header_of, parse}
use Rattle.zf_parse.specs.ReadStreams.{IsFault}
use Rattle.zf_index.specs.declared.fault.OpenFault.{OpenFault}
use Rattle.zf_index.specs.declared.fault.OpenFault.TheVariants as open_fault
use Rattle.zf_index.specs.Files.{stream_fault}

-- every mode will do
abbrev pub AnyMode : Mode → Type 0
AnyMode m = Unit {0}

-- the bytes begin with the header h, of values of this type in d dimensions, in a mode that will do
pub record IsOpenable (Does : Mode → Type 0) (ty : Ty) (d : ℕ) (bytes : List ℕ) (h : Header) : Type 0 where
  pub good : header_fault bytes ≡ None
  pub header : h ≡ header_of bytes
  pub whole : IsHeader h
  pub same_type : h.ty ≡ ty
  pub dims : length h.shape ≡ d
  pub mode : Does h.mode

-- why bytes have no such header: the first fault of their header, their type, their dimensions and their mode
abbrev pub LacksHeader : (Mode → Type 0) → Ty → ℕ → List ℕ → OpenFault → Type 0
LacksHeader Does ty d bytes (open_fault.Header f) = header_fault bytes ≡ Some f
LacksHeader Does ty d bytes (open_fault.Ty found) =
    (header_fault bytes ≡ None) × (found ≡ (header_of bytes).ty) × (found ≢ ty)
LacksHeader Does ty d bytes (open_fault.Dims found) =
    (header_fault bytes ≡ None) × ((header_of bytes).ty ≡ ty) × (found ≡ length (header_of bytes).shape)
    × (found ≢ d)
LacksHeader Does ty d bytes (open_fault.Mode found) =
    IsOpenable AnyMode ty d bytes (header_of bytes) × (found ≡ (header_of bytes).mode) × (Does found → ⊥)
LacksHeader Does ty d bytes (open_fault.Codes f) = ⊥

-- why bytes are not opened as an array of this type in d dimensions, in a mode that will do: they have no
-- such header, or there is a fault behind it
abbrev pub IsUnopened : (Mode → Type 0) → Ty → ℕ → List ℕ → OpenFault → Type 0
IsUnopened Does ty d bytes (open_fault.Codes f) = IsOpenable Does ty d bytes (header_of bytes)
    × IsFault (parse bytes) (stream_fault f)
IsUnopened Does ty d bytes e = LacksHeader Does ty d bytes e
