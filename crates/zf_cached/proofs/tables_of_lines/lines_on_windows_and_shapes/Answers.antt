use Rattle.std.{proofs.Common.{refl}, specs.Fmt.{digits}}
use Rattle.zf_cached.specs.Grammar.{candidates, read_line}
use Rattle.zf_cached.proofs.tables_of_lines.lines_on_windows_and_shapes.Goals as goal

pub returns : goal.returns
unfolding digits candidates read_line
returns c = record { view = refl; view_of_nothing = refl; slice = refl; no_such_axis = refl; resize = refl; other_dimensions = refl; lines = refl }
