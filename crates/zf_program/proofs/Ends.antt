-- Which statuses a command can end with at all, whatever its devices expose. It follows from what a command did.
use Rattle.std.specs.Prelude.{ℕ, ◌<◌, ◌≤◌}
use Rattle.zf_parse.specs.Raw.{raw_len}
use Rattle.zf_narrow.specs.Texts.{narrow_len}
use Rattle.zf_words.specs.declared.command.Command.{Command}
use Rattle.zf_program.specs.declared.status.Status.{Status}
use Rattle.zf_words.specs.declared.command.Command.TheVariants.{Compress, CompressNarrow, Restore, RestoreNarrow, Info, New, Run, Look, Bound, Sample}
use Rattle.zf_program.specs.declared.status.Status.TheVariants as statuses

-- the statuses of `compress` of arrays of so many bytes
abbrev pub CompressEnds : ℕ → Status → Type 0
CompressEnds many statuses.Done = Unit {0}
CompressEnds many (statuses.RawShort m) = m < many
CompressEnds many statuses.RawLong = Unit {0}
CompressEnds many statuses.ReadFault = Unit {0}
CompressEnds many statuses.WriteFault = Unit {0}
CompressEnds many statuses.Memory = Unit {0}
CompressEnds many status = ⊥

-- those of `restore`
abbrev pub RestoreEnds : Status → Type 0
RestoreEnds statuses.Done = Unit {0}
RestoreEnds (statuses.Header fault) = Unit {0}
RestoreEnds (statuses.Truncated b) = Unit {0}
RestoreEnds statuses.Pad = Unit {0}
RestoreEnds statuses.Trailing = Unit {0}
RestoreEnds statuses.ReadFault = Unit {0}
RestoreEnds statuses.WriteFault = Unit {0}
RestoreEnds statuses.Memory = Unit {0}
RestoreEnds status = ⊥

-- those of `restore` of narrow values
abbrev pub RestoreNarrowEnds : Status → Type 0
RestoreNarrowEnds statuses.NotNarrow = Unit {0}
RestoreNarrowEnds status = RestoreEnds status

-- those of `info`
abbrev pub InfoEnds : Status → Type 0
InfoEnds statuses.Done = Unit {0}
InfoEnds (statuses.Header fault) = Unit {0}
InfoEnds statuses.ReadFault = Unit {0}
InfoEnds statuses.WriteFault = Unit {0}
InfoEnds status = ⊥

-- those of `new`
abbrev pub NewEnds : Status → Type 0
NewEnds statuses.Done = Unit {0}
NewEnds statuses.SaveFault = Unit {0}
NewEnds statuses.Memory = Unit {0}
NewEnds status = ⊥

-- those of a file that is not opened
abbrev pub FileEnds : Status → Type 0
FileEnds statuses.Missing = Unit {0}
FileEnds statuses.FileLong = Unit {0}
FileEnds statuses.LoadFault = Unit {0}
FileEnds (statuses.Header fault) = Unit {0}
FileEnds (statuses.Truncated b) = Unit {0}
FileEnds statuses.Pad = Unit {0}
FileEnds statuses.Trailing = Unit {0}
FileEnds statuses.Memory = Unit {0}
FileEnds status = ⊥

-- those of `look`
abbrev pub LookEnds : Status → Type 0
LookEnds statuses.Done = Unit {0}
LookEnds (statuses.Lines n) = 1 ≤ n
LookEnds statuses.ScriptLong = Unit {0}
LookEnds statuses.ReadFault = Unit {0}
LookEnds statuses.WriteFault = Unit {0}
LookEnds status = FileEnds status

-- those of `run`
abbrev pub RunEnds : Status → Type 0
RunEnds (statuses.NotRate m) = Unit {0}
RunEnds statuses.SaveFault = Unit {0}
RunEnds status = LookEnds status

-- those of `bound`
abbrev pub BoundEnds : Status → Type 0
BoundEnds statuses.Done = Unit {0}
BoundEnds (statuses.NotRate m) = Unit {0}
BoundEnds statuses.WriteFault = Unit {0}
BoundEnds status = FileEnds status

-- those of `sample`
abbrev pub SampleEnds : Status → Type 0
SampleEnds statuses.Done = Unit {0}
SampleEnds statuses.WriteFault = Unit {0}
SampleEnds statuses.Memory = Unit {0}
SampleEnds status = ⊥

-- a command can end so at all, whatever its devices expose
abbrev pub IsPossible : Command → Status → Type 0
IsPossible (Compress h) status = CompressEnds (raw_len h) status
IsPossible (CompressNarrow n h) status = CompressEnds (narrow_len n h) status
IsPossible Restore status = RestoreEnds status
IsPossible (RestoreNarrow n) status = RestoreNarrowEnds status
IsPossible Info status = InfoEnds status
IsPossible (New name ty ns b) status = NewEnds status
IsPossible (Run name caching) status = RunEnds status
IsPossible (Look name lines) status = LookEnds status
IsPossible (Bound name most) status = BoundEnds status
IsPossible (Sample h seed) status = SampleEnds status
