-- The header that a field says, or why it says none, and what is stated of raw bytes and of streams.
use Rattle.std.specs.Prelude.{ℕ, ◌==◌, ◌&&◌, not, nat_le, List, [], ◌∷◌, take, Option, Some, None, Result, Ok, Err, if◌then◌else◌}
use Rattle.zf_base.specs.declared.lane.Ty.{Ty}
use Rattle.zf_base.specs.declared.lane.Ty.TheVariants.{I32, I64}
use Rattle.zf_base.specs.declared.shape.ShapeFault.{ShapeFault}
use Rattle.zf_base.specs.Shapes.{shape_fault}
use Rattle.zf_header.specs.declared.header.Header.{Header}
use Rattle.zf_header.specs.declared.header.Mode.{Mode}
use Rattle.zf_header.specs.declared.header.Mode.TheVariants.{Reversible, Rate, Precision}
use Rattle.zf_narrow.specs.declared.narrow.Narrow.{Narrow}
use Rattle.zf_narrow.specs.declared.narrow.Narrow.TheVariants.{I8, U8, I16, U16}
use Rattle.zf_narrow.specs.Texts.{narrow_text, compress_narrow_answer, restore_narrow_answer, narrow_restored}
use Rattle.zf_parse.specs.Raw.{stream_text, compress_answer}
use Rattle.zf_parse.specs.Parsing.{restore_answer}
use Rattle.zf_parse.specs.declared.fault.StreamFault.{StreamFault}
use Rattle.zfpi_c.specs.declared.fields.Field.{Field}
use Rattle.zfpi_c.specs.declared.status.Status.{Status}
use Rattle.zfpi_c.specs.declared.status.Status.TheVariants as statuses
use Rattle.zfpi_c.specs.Statuses.{as_status, of_stream, of_narrow}

-- 1 is int32, 2 is int64; 3 to 6, int8, uint8, int16 and uint16, are int32 in the stream
abbrev pub type_of : ℕ → Option Ty
type_of n = if n == 1 then Some I32 else (if n == 2 then Some I64
    else (if nat_le 3 n && nat_le n 6 then Some I32 else None))

-- those of 8 and 16 bits
abbrev pub narrow_of : ℕ → Option Narrow
narrow_of n = if n == 3 then Some I8 else (if n == 4 then Some U8
    else (if n == 5 then Some I16 else (if n == 6 then Some U16 else None)))

-- 1 is reversible, 2 a rate of 1 to 32768, 3 a precision of 1 to 128
abbrev pub mode_of : ℕ → ℕ → Option Mode
mode_of n p =
    if n == 1 then Some Reversible
    else (if n == 2 && nat_le 1 p && nat_le p 32768 then Some (Rate p)
    else (if n == 3 && nat_le 1 p && nat_le p 128 then Some (Precision p) else None))

-- the sizes along the axes that are used, x first
abbrev pub sizes_of : Field → List ℕ
sizes_of f = take f.dims (f.nx ∷ f.ny ∷ f.nz ∷ f.nw ∷ [])

-- the header of this type and these sizes, where there is a mode
abbrev pub with_mode : Ty → List ℕ → Option Mode → Result Header Status
with_mode ty ns None = Err statuses.Mode
with_mode ty ns (Some mode) = Ok (record { ty = ty; shape = ns; mode = mode })

-- the header of this type, where its sizes have no fault
abbrev pub with_shape : Ty → Field → Option ShapeFault → Result Header Status
with_shape ty f (Some e) = Err statuses.Shape
with_shape ty f None = with_mode ty (sizes_of f) (mode_of f.mode f.parameter)

-- the header, where there is a type
abbrev pub with_type : Field → Option Ty → Result Header Status
with_type f None = Err statuses.Scalar
with_type f (Some ty) = if not (nat_le 1 f.dims && nat_le f.dims 4) then Err statuses.Shape
    else with_shape ty f (shape_fault (sizes_of f))

-- the header, or the first of these: no type, no one to four dimensions, sizes that are no shape, no mode
abbrev pub header_answer : Field → Result Header Status
header_answer f = with_type f (type_of f.ty)

-- ---- what is stated of raw bytes

-- the stream of these; a header of values of 8 and 16 bits says int32
abbrev pub text_of : Option Narrow → Header → List ℕ → List ℕ
text_of None h raw = stream_text h raw
text_of (Some n) h raw = narrow_text n h raw

-- what is said of them where they are too few or too many
abbrev pub answer_of : Option Narrow → Header → List ℕ → Result (Unit {0}) StreamFault
answer_of None h raw = compress_answer h raw
answer_of (Some n) h raw = compress_narrow_answer n h raw

-- the same of what a field says; nothing where that is no header
abbrev pub text_with : Option Narrow → Result Header Status → List ℕ → List ℕ
text_with narrow (Err status) raw = []
text_with narrow (Ok h) raw = text_of narrow h raw

abbrev pub text_said : Field → List ℕ → List ℕ
text_said field raw = text_with (narrow_of field.ty) (header_answer field) raw

-- why a field and raw bytes are refused, if they are: the field says no header, or there are fewer or more bytes
-- than it needs
abbrev pub answer_with : Option Narrow → Result Header Status → List ℕ → Result (Unit {0}) Status
answer_with narrow (Err status) raw = Err status
answer_with narrow (Ok h) raw = as_status of_stream (answer_of narrow h raw)

abbrev pub compress_stated : Field → List ℕ → Result (Unit {0}) Status
compress_stated field raw = answer_with (narrow_of field.ty) (header_answer field) raw

-- ---- what is stated of a stream

-- why a stream is refused, if it is
abbrev pub restore_stated : List ℕ → Result (Unit {0}) Status
restore_stated stream = as_status of_stream (restore_answer stream)

-- the same where the values are to be of 8 or 16 bits, and their bytes; a number that says no such type comes first
abbrev pub restore_narrow_stated : Option Narrow → List ℕ → Result (Unit {0}) Status
restore_narrow_stated None stream = Err statuses.Scalar
restore_narrow_stated (Some n) stream = as_status of_narrow (restore_narrow_answer stream)

abbrev pub narrow_values : Option Narrow → List ℕ → List ℕ
narrow_values None stream = []
narrow_values (Some n) stream = narrow_restored n stream
