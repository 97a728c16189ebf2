use Rattle.std.proofs.Common.{rules}
use Rattle.zf_commands.{proofs.Sorting.{sort_of, by_kind}, proofs.Stepping.{refused_split}}
use Rattle.zf_run.proofs.splits.Parted.obey_whole.Goals as goal

pub returns-in-Join : goal.returns-in-Join
returns-in-Join g c = search (rules, refused_split, by_kind, sort_of)

pub returns-in-View : goal.returns-in-View
returns-in-View g c = search (rules, refused_split, by_kind, sort_of)
