use Rattle.std.proofs.Common.{rules}
use Rattle.zf_cached.specs.Runs.{array_setting}
use Rattle.zf_commands.{proofs.Commanding.{taken}, proofs.Sorting.{same_plain}}
use Rattle.zf_run.proofs.Parting.{none_parted}
use Rattle.zf_run.proofs.splits.PartedScripted.obey.Goals as goal

pub obey_parted-requires : goal.obey_parted-requires
obey_parted-requires g c = search (rules, same_plain)

pub obey_whole-requires : goal.obey_whole-requires
obey_whole-requires g c = search (rules, same_plain, none_parted)

pub returns-then-is_some-clause-step : goal.returns-then-is_some-clause-step
unfolding array_setting
returns-then-is_some-clause-step g c = search (rules, taken)

pub returns-else-is_some-clause-step : goal.returns-else-is_some-clause-step
unfolding array_setting
returns-else-is_some-clause-step g c = search (rules, taken)
