use Rattle.std.proofs.Common.{rules, refl, ap, not}
use Rattle.zf_base.specs.Positions.{used_axes}
use Rattle.zf_cached.specs.Commands.{Command}
use Rattle.zf_run.{specs.Sessions.{setting_of, session_of}, proofs.Changing.{same_array}}
use Rattle.zf_run.proofs.Resizing.{resizes}
use Rattle.zf_commands.proofs.Stepping.{refused_size, refused_memory}
use Rattle.zf_run.proofs.changes.resize.Goals as goal

pub returns-in_default-clause-does : goal.returns-in_default-clause-does
returns-in_default-clause-does g c =
    refused_size (setting_of g.T.Lane.width c.args.a.now) (Command.resize (used_axes c.args.count c.args.sizes)) (session_of c.args.a.now c.args.window.now) c.requires.inside refl (ap not c.in_default.ensures.none)

pub returns-in-Ok-clause-does : goal.returns-in-Ok-clause-does
returns-in-Ok-clause-does g c = search (rules, resizes)

pub returns-in-Err-clause-does : goal.returns-in-Err-clause-does
returns-in-Err-clause-does g c = search (rules, same_array, refused_memory)
