use Rattle.std.{proofs.Common.{refl}, specs.Fmt.{digits}}
use Rattle.zf_cached.specs.Grammar.{candidates, read_line}
use Rattle.zf_cached.proofs.tables_of_lines.lines_on_views.Goals as goal

pub returns : goal.returns
unfolding digits candidates read_line
returns c = record { split = refl; split_of_nothing = refl; join = refl; get = refl; set = refl; add = refl; flush = refl; discard = refl; stats = refl }
