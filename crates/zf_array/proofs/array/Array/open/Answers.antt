use Rattle.std.proofs.Common.{ap, Bool, List}
use Rattle.zf_cached.{specs.State.{State}, specs.Changes.{opened}, specs.Arrays.{open_array}}
use Rattle.zf_array.proofs.array.Array.open.Goals as goal

pub returns-clause-clean : goal.returns-clause-clean
unfolding open_array opened
returns-clause-clean g c = λ b. ap (λ (u : State (List Bool)). u.dirty b) c.in_ok-array.ensures.state
