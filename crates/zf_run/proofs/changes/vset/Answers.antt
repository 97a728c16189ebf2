use Rattle.std.{proofs.Common.{rules}, proofs.lemmas.Bool.{false≢true}}
use Rattle.std.proofs.lemmas.Int.{to_z-of_z}
use Rattle.zf_cached.specs.Runs.{array_setting}
use Rattle.zf_commands.proofs.Stepping.{refused_range, refused_value}
use Rattle.zf_commands.proofs.Commanding.{outside_window, within}
use Rattle.zf_run.proofs.Changing.{put_there}
use Rattle.zf_run.proofs.changes.vset.Goals as goal

pub returns-then-not-contains-clause-does : goal.returns-then-not-contains-clause-does
returns-then-not-contains-clause-does g c = search (rules, refused_range, outside_window, false≢true)

pub returns-in_default-clause-does : goal.returns-in_default-clause-does
unfolding array_setting
returns-in_default-clause-does g c = search (rules, refused_value, within, to_z-of_z)

pub returns-clause-does : goal.returns-clause-does
returns-clause-does g c = search (rules, put_there, to_z-of_z)
