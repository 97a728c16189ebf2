use Rattle.std.{proofs.Common.{refl}, specs.Fmt.{digits}}
use Rattle.zf_cached.specs.Grammar.{candidates, read_line}
use Rattle.zf_cached.proofs.tables_of_lines.refused_views.Goals as goal

pub returns : goal.returns
unfolding digits candidates read_line
returns c = record { space_behind = refl; no_number = refl; leading_zero = refl; sign = refl; too_great = refl; no_verb = refl; no_more = refl; no_line_of_views = refl; twice = refl; joined = refl; number_missing = refl; number_too_many = refl; word_behind = refl; position_missing = refl; coordinate_missing = refl; words_behind = refl }
