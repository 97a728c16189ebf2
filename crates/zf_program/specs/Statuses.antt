-- The exit code of each status, its line for the error output, and by which the work was done.
use Rattle.std.specs.Prelude.{ℕ, Bool, true, false, List, [], ◌++◌, codes, decimal}
use Rattle.zf_header.specs.declared.header.HeaderFault.{HeaderFault}
use Rattle.zf_header.specs.declared.header.HeaderFault.TheVariants as headers
use Rattle.zf_program.specs.declared.status.Status.{Status}
use Rattle.zf_program.specs.declared.status.Status.TheVariants.{Done, Lines, Usage, RawShort, RawLong, Header, Truncated, Pad, Trailing, NotRate, NotNarrow, Missing, ScriptLong, FileLong, ReadFault, WriteFault, LoadFault, SaveFault, Memory}

-- the work was done, but for the saving maybe
abbrev pub is_work_done : Status → Bool
is_work_done Done = true
is_work_done (Lines n) = true
is_work_done SaveFault = true
is_work_done status = false

-- the exit code of the process
abbrev pub code_of : Status → ℕ
code_of Done = 0
code_of (Lines n) = 1
code_of (Usage k) = 2
code_of (RawShort m) = 3
code_of RawLong = 3
code_of (Header fault) = 4
code_of (Truncated b) = 5
code_of Pad = 5
code_of Trailing = 5
code_of (NotRate m) = 6
code_of Missing = 7
code_of ScriptLong = 8
code_of FileLong = 9
code_of ReadFault = 10
code_of WriteFault = 11
code_of LoadFault = 12
code_of SaveFault = 12
code_of NotNarrow = 13
code_of Memory = 20

-- what is wrong with a header
abbrev pub header_message : HeaderFault → List ℕ
header_message headers.Short = codes "short"
header_message headers.Magic = codes "magic"
header_message headers.Codec = codes "codec"
header_message headers.Scalar = codes "type"
header_message headers.Order = codes "order"
header_message headers.TooLarge = codes "too large"
header_message (headers.Mode m) = codes "mode " ++ decimal m

-- the line with this text
abbrev pub line : List ℕ → List ℕ
line text = codes "zfpi: " ++ text ++ codes "\n"

-- the line of a status; none after Done
abbrev pub error_line : Status → List ℕ
error_line Done = []
error_line (Lines n) = line (decimal n ++ codes " lines refused")
error_line (Usage k) = line (codes "usage: word " ++ decimal k)
error_line (RawShort m) = line (codes "input ends after " ++ decimal m ++ codes " bytes")
error_line RawLong = line (codes "input is longer than the shape")
error_line (Header fault) = line (codes "header: " ++ header_message fault)
error_line (Truncated b) = line (codes "stream ends in block " ++ decimal b)
error_line Pad = line (codes "fill bit is one")
error_line Trailing = line (codes "bytes after the stream")
error_line (NotRate m) = line (codes "mode " ++ decimal m ++ codes " has no cached array")
error_line NotNarrow = line (codes "type is not int32")
error_line Missing = line (codes "no such file")
error_line ScriptLong = line (codes "script too long")
error_line FileLong = line (codes "file too long")
error_line ReadFault = line (codes "read fault")
error_line WriteFault = line (codes "write fault")
error_line LoadFault = line (codes "load fault")
error_line SaveFault = line (codes "save fault")
error_line Memory = line (codes "out of memory")
