-- The line that `sample` writes.
use Rattle.std.specs.Prelude.{ℕ, List, ◌++◌, codes, decimal}
use Rattle.zf_header.specs.declared.header.Header.{Header}
use Rattle.zf_sample.specs.declared.summary.Summary.{Summary}
use Rattle.zf_sample.specs.Summaries.{summary_of}

-- `values V blocks N bytes K changed C`
abbrev pub summary_line : Summary → List ℕ
summary_line s =
    codes "values " ++ decimal s.values ++ codes " blocks " ++ decimal s.blocks ++ codes " bytes " ++ decimal s.bytes
    ++ codes " changed " ++ decimal s.changed ++ codes "\n"

-- the line for the array that is made of a number
abbrev pub sample_text : Header → ℕ → List ℕ
sample_text h seed = summary_line (summary_of h seed)
