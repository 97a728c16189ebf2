use Rattle.std.{proofs.Common.{refl}, specs.Fmt.{digits}}
use Rattle.zf_cached.specs.Grammar.{candidates, read_line}
use Rattle.zf_cached.proofs.tables_of_lines.refused_numbers.Goals as goal

pub returns : goal.returns
unfolding digits candidates read_line
returns c = record { leading_zero = refl; two_zeros = refl; too_great = refl; too_great_value = refl; minus_zero = refl; plus = refl; two_signs = refl; sign_alone = refl; sign_of_a_number = refl; no_digits = refl; letters = refl }
