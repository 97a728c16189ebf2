use Rattle.std.{proofs.Common.{refl}, specs.Fmt.{digits}}
use Rattle.zf_cached.specs.Grammar.{candidates, read_line}
use Rattle.zf_cached.proofs.tables_of_lines.lines_of_one_word.Goals as goal

pub returns : goal.returns
unfolding digits candidates read_line
returns c = record { sum = refl; vsum = refl; flush = refl; discard = refl; stats = refl }
