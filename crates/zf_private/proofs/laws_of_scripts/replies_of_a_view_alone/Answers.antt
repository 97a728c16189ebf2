use Rattle.std.proofs.Common.{false}
use Rattle.zf_cached.{specs.Commands.{Command}, specs.Steps.{step}}
use Rattle.zf_private.proofs.Scripts.{some_views, begins, alone}
use Rattle.zf_private.proofs.laws_of_scripts.replies_of_a_view_alone.Goals as goal

pub returns : goal.returns
returns g c = λ setting start views lines starved others k m script i taken none.
    let s = (step setting start (Command.split views lines) false).0 in
    alone setting start.shape views (some_views setting start views lines taken) i starved others k m script s s (begins setting start views lines taken i) none
