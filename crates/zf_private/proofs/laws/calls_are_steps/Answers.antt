use Rattle.std.proofs.Common.{rules}
use Rattle.zf_private.proofs.Several.{still_ready, stands_for, same_answer}
use Rattle.zf_private.proofs.laws.calls_are_steps.Goals as goal

pub returns : goal.returns
returns g c = search (rules, still_ready, stands_for, same_answer)
