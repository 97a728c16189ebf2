use Rattle.std.proofs.Common.{rules}
use Rattle.zf_commands.proofs.Passing.{all_alike}
use Rattle.zf_commands.proofs.blocks.fill_line.Goals as goal

pub returns : goal.returns
returns g c = search (rules, all_alike)
