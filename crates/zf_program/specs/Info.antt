-- How far `info` reads, and the line that it writes.
use Rattle.std.specs.Prelude.{◌≡◌, ℕ, ◌≤◌, List, [], ◌++◌, length, take, is_none, if◌then◌else◌, codes, decimal}
use Rattle.zf_spec.specs.Grid.{blocks}
use Rattle.zf_spec.specs.Stream.{to_bits}
use Rattle.zf_header.specs.declared.header.Header.{Header}
use Rattle.zf_header.specs.declared.header.Mode.{Mode}
use Rattle.zf_header.specs.declared.header.Mode.TheVariants.{Reversible, Rate, Precision}
use Rattle.zf_header.specs.HeaderBits.{header_bits}
use Rattle.zf_header.specs.HeaderFields.{header_in}
use Rattle.zf_header.specs.HeaderFaults.{header_fault}
use Rattle.zf_program.specs.declared.status.Status.{Status}
use Rattle.zf_program.specs.declared.status.Status.TheVariants as statuses
use Rattle.zf_words.specs.Words.{type_word, shape_word}

-- `reversible`, `rate B` or `precision P`
abbrev pub mode_text : Mode → List ℕ
mode_text Reversible = codes "reversible"
mode_text (Rate b) = codes "rate " ++ decimal b
mode_text (Precision p) = codes "precision " ++ decimal p

-- `TYPE SHAPE MODE blocks N header H`, with the number of blocks and the length of the header in bits
abbrev pub info_line : Header → List ℕ
info_line h =
    type_word h.ty ++ codes " " ++ shape_word h.shape ++ codes " " ++ mode_text h.mode
    ++ codes " blocks " ++ decimal (blocks h.shape) ++ codes " header " ++ decimal (length (header_bits h)) ++ codes "\n"

-- the line for the header that bytes begin with; nothing where they have no good one
abbrev pub info_text : List ℕ → List ℕ
info_text bytes = if is_none (header_fault bytes) then info_line (header_in (to_bits bytes)) else []

-- the bytes that the longest header lies in
abbrev pub header_bytes : ℕ
header_bytes = 19

-- these were taken and no more, unless the source failed within them
abbrev pub TakesHeader : Status → List ℕ → List ℕ → Type 0
TakesHeader statuses.ReadFault input taken = length taken ≤ header_bytes
TakesHeader status input taken = taken ≡ take header_bytes input
