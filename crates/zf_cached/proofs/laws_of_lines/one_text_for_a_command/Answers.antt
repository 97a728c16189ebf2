use Rattle.zf_cached.proofs.ReadLines.{read_line_iff, line_of_injective}
use Rattle.zf_cached.proofs.laws_of_lines.one_text_for_a_command.Goals as goal

pub returns : goal.returns
returns c = record { read = read_line_iff; different = line_of_injective }
