use Rattle.zf_commands.proofs.Folding.{starved-counted}
use Rattle.zf_commands.proofs.laws.starved_lines_are_counted.Goals as goal

pub returns : goal.returns
returns c setting starved k lines s = starved-counted setting starved k lines s
