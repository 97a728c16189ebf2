-- The number of each status, and the one that a fault of a stream has.
use Rattle.std.specs.Prelude.{ℕ, Result}
use Rattle.std.specs.Result.{result_map_both}
use Rattle.zf_parse.specs.declared.fault.StreamFault.{StreamFault}
use Rattle.zf_parse.specs.declared.fault.StreamFault.TheVariants as faults
use Rattle.zf_narrow.specs.declared.fault.NarrowFault.{NarrowFault}
use Rattle.zf_narrow.specs.declared.fault.NarrowFault.TheVariants as narrow
use Rattle.zf_part.specs.declared.places.PlaceFault.{PlaceFault}
use Rattle.zf_part.specs.declared.places.PlaceFault.TheVariants as places
use Rattle.zfpi_c.specs.declared.status.Status.{Status}
use Rattle.zfpi_c.specs.declared.status.Status.TheVariants.{Scalar, Shape, Mode, RawShort, RawLong, Room, Memory, Header, Truncated, Pad, Trailing, NotNarrow, Part, Index, Device}

abbrev pub code_of : Status → ℕ
code_of Scalar = 1
code_of Shape = 2
code_of Mode = 3
code_of RawShort = 4
code_of RawLong = 5
code_of Room = 6
code_of Memory = 7
code_of Header = 8
code_of Truncated = 9
code_of Pad = 10
code_of Trailing = 11
code_of NotNarrow = 12
code_of Part = 13
code_of Index = 14
code_of Device = 15

abbrev pub of_stream : StreamFault → Status
of_stream (faults.RawShort n) = RawShort
of_stream faults.RawLong = RawLong
of_stream (faults.Header f) = Header
of_stream (faults.Truncated b) = Truncated
of_stream faults.Pad = Pad
of_stream faults.Trailing = Trailing
of_stream faults.Read = Device
of_stream faults.Write = Device
of_stream faults.Memory = Memory

abbrev pub of_narrow : NarrowFault → Status
of_narrow (narrow.Stream e) = of_stream e
of_narrow narrow.NotNarrow = NotNarrow

abbrev pub of_places : PlaceFault → Status
of_places places.Foreign = Index
of_places places.Memory = Memory

-- the answer, with a fault as its status
abbrev pub as_status : {E : Type 0} → (E → Status) → Result (Unit {0}) E → Result (Unit {0}) Status
as_status of answer = result_map_both (λ done. done) of answer

-- such a status is answered before anything is written
abbrev pub IsEarly : Status → Type 0
IsEarly Scalar = Unit {0}
IsEarly Shape = Unit {0}
IsEarly Mode = Unit {0}
IsEarly Memory = Unit {0}
IsEarly Header = Unit {0}
IsEarly NotNarrow = Unit {0}
IsEarly status = ⊥
