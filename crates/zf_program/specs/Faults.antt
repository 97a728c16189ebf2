-- The status of each fault that a call answers.
use Rattle.std.specs.Prelude.{Option, Some, None, Result, Ok, Err}
use Rattle.zf_header.specs.declared.header.HeaderFault.{HeaderFault}
use Rattle.zf_dev.specs.declared.faults.LoadError.{LoadError}
use Rattle.zf_dev.specs.declared.faults.LoadError.TheVariants as loading
use Rattle.zf_dev.specs.declared.faults.TakeError.{TakeError}
use Rattle.zf_dev.specs.declared.faults.TakeError.TheVariants as taking
use Rattle.zf_parse.specs.declared.fault.StreamFault.{StreamFault}
use Rattle.zf_parse.specs.declared.fault.StreamFault.TheVariants as faults
use Rattle.zf_narrow.specs.declared.fault.NarrowFault.{NarrowFault}
use Rattle.zf_narrow.specs.declared.fault.NarrowFault.TheVariants.{NotNarrow, Stream}
use Rattle.zf_index.specs.declared.fault.IndexFault.{IndexFault}
use Rattle.zf_index.specs.Files.{stream_fault}
use Rattle.zf_program.specs.declared.status.Status.{Status}
use Rattle.zf_program.specs.declared.status.Status.TheVariants as statuses

-- the status of a fault of a stream
abbrev pub fault_status : StreamFault → Status
fault_status (faults.RawShort m) = statuses.RawShort m
fault_status faults.RawLong = statuses.RawLong
fault_status (faults.Header fault) = statuses.Header fault
fault_status (faults.Truncated b) = statuses.Truncated b
fault_status faults.Pad = statuses.Pad
fault_status faults.Trailing = statuses.Trailing
fault_status faults.Read = statuses.ReadFault
fault_status faults.Write = statuses.WriteFault
fault_status faults.Memory = statuses.Memory

-- the status of a fault of a stream that is restored to narrow values
abbrev pub narrow_status : NarrowFault → Status
narrow_status NotNarrow = statuses.NotNarrow
narrow_status (Stream e) = fault_status e

-- the status of a fault of a header, or of none
abbrev pub header_status : Option HeaderFault → Status
header_status None = statuses.Done
header_status (Some fault) = statuses.Header fault

-- the status of how a call on a stream ended
abbrev pub status_of : Result (Unit {0}) StreamFault → Status
status_of (Ok done) = statuses.Done
status_of (Err fault) = fault_status fault

-- and of how one on a stream of narrow values did
abbrev pub narrow_status_of : Result (Unit {0}) NarrowFault → Status
narrow_status_of (Ok done) = statuses.Done
narrow_status_of (Err fault) = narrow_status fault

-- the status of a file that was not loaded
abbrev pub load_status : LoadError → Status
load_status loading.Missing = statuses.Missing
load_status loading.Long = statuses.FileLong
load_status loading.Failed = statuses.LoadFault
load_status loading.Memory = statuses.Memory

-- the status of a file that is no stream, or no array's
abbrev pub index_status : IndexFault → Status
index_status e = fault_status (stream_fault e)

-- the status of a script that was not read to its end
abbrev pub take_status : TakeError → Status
take_status taking.Long = statuses.ScriptLong
take_status taking.Failed = statuses.ReadFault
take_status taking.Memory = statuses.Memory
