use Rattle.std.{proofs.Common.{refl}, specs.Fmt.{digits}}
use Rattle.zf_cached.specs.Grammar.{candidates, read_line}
use Rattle.zf_cached.proofs.tables_of_lines.refused_positions.Goals as goal

pub returns : goal.returns
unfolding digits candidates read_line
returns c = record { too_many = refl; too_few = refl; comma_behind = refl; comma_alone = refl; sizes_of_a_position = refl; position_of_sizes = refl; size_too_many = refl; five_sizes = refl; size_missing = refl }
