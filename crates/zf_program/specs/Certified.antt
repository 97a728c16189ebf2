-- The line that `bound` writes.
use Rattle.std.specs.Prelude.{ℕ, List, [], Result, Ok, Err}
use Rattle.zf_parse.specs.Parsing.{Said}
use Rattle.zf_bound.specs.Bounds.{certified_of, bound_text}
use Rattle.zf_program.specs.declared.status.Status.{Status}
use Rattle.zf_program.specs.declared.status.Status.TheVariants as statuses

-- what is certified of the stream for contents of magnitudes up to so many, where the file is opened so
abbrev pub certified_text : ℕ → Result Said Status → List ℕ
certified_text most (Ok said) = bound_text (certified_of said.header said.codes most)
certified_text most (Err status) = []

-- the status, where the file is opened so
abbrev pub certified_status : Result Said Status → Status
certified_status (Ok said) = statuses.Done
certified_status (Err status) = status
