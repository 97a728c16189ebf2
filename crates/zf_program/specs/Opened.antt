-- What the file of a name is opened as.
use Rattle.std.specs.Prelude.{ℕ, nat_lt, List, length, Option, Some, None, Result, Ok, Err, if◌then◌else◌}
use Rattle.zf_spec.specs.Stream.{mode_number}
use Rattle.zf_header.specs.declared.header.Mode.{Mode}
use Rattle.zf_header.specs.declared.header.Mode.TheVariants.{Reversible, Rate, Precision}
use Rattle.zf_header.specs.declared.header.HeaderFault.{HeaderFault}
use Rattle.zf_header.specs.HeaderBits.{coding}
use Rattle.zf_header.specs.HeaderFaults.{header_fault}
use Rattle.zf_parse.specs.declared.fault.StreamFault.{StreamFault}
use Rattle.zf_parse.specs.Parsing.{Said, header_of, parse}
use Rattle.zf_cached.specs.Arrays.{max_file}
use Rattle.zf_program.specs.declared.status.Status.{Status}
use Rattle.zf_program.specs.declared.status.Status.TheVariants as statuses
use Rattle.zf_program.specs.Faults.{fault_status}

-- what a stream says, or the status that says why it says nothing
abbrev pub said_or_status : Result Said StreamFault → Result Said Status
said_or_status (Ok said) = Ok said
said_or_status (Err fault) = Err (fault_status fault)

-- what a stream of a rate says; a stream of another mode is no array's
abbrev pub said_at_rate : Mode → Result Said StreamFault → Result Said Status
said_at_rate (Rate b) answer = said_or_status answer
said_at_rate Reversible answer = Err (statuses.NotRate (mode_number (coding Reversible)))
said_at_rate (Precision p) answer = Err (statuses.NotRate (mode_number (coding (Precision p))))

-- the array behind a good header
abbrev pub array_behind : Option HeaderFault → Result Said Status → Result Said Status
array_behind None array = array
array_behind (Some fault) array = Err (statuses.Header fault)

-- the array whose file has these bytes, or the status that says why there is none
unfoldable pub array_in : List ℕ → Result Said Status
array_in bytes = array_behind (header_fault bytes) (said_at_rate (header_of bytes).mode (parse bytes))

-- the stream, of any mode, whose file has these bytes
unfoldable pub stream_in : List ℕ → Result Said Status
stream_in bytes = said_or_status (parse bytes)

-- what a file is opened as, where there is one
abbrev pub opened : (List ℕ → Result Said Status) → Option (List ℕ) → Result Said Status
opened reading None = Err statuses.Missing
opened reading (Some bytes) = if nat_lt max_file (length bytes) then Err statuses.FileLong else reading bytes
