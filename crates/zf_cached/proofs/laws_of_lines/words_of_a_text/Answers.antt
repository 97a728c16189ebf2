use Rattle.zf_cached.proofs.ReadLines.{cut_at-line_of}
use Rattle.zf_cached.proofs.laws_of_lines.words_of_a_text.Goals as goal

pub returns : goal.returns
returns c = cut_at-line_of
