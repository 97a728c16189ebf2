use Rattle.zf_private.proofs.Scripts.{replies_are}
use Rattle.zf_private.proofs.laws_of_scripts.replies_of_lines.Goals as goal

pub returns : goal.returns
returns g c = λ setting starved k lines s. replies_are setting starved k lines s
