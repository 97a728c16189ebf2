use Rattle.std.proofs.Common.{rules}
use Rattle.zf_commands.{proofs.Sorting.{by_kind}, proofs.Stepping.{refused_split}}
use Rattle.zf_run.proofs.splits.Parted.obey_view.Goals as goal

pub returns-in_default : goal.returns-in_default
returns-in_default g c = search (rules, refused_split, by_kind)
