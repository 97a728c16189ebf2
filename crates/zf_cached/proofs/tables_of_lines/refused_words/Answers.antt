use Rattle.std.{proofs.Common.{refl}, specs.Fmt.{digits}}
use Rattle.zf_cached.specs.Grammar.{candidates, read_line}
use Rattle.zf_cached.proofs.tables_of_lines.refused_words.Goals as goal

pub returns : goal.returns
unfolding digits candidates read_line
returns c = record { empty = refl; before = refl; behind = refl; two_spaces = refl; behind_a_position = refl; tab = refl; other_letters = refl; part_of_a_word = refl; more_letters = refl; one_word_more = refl; one_word_less = refl; words_behind = refl; no_words = refl }
