use Rattle.zf_spec.proofs.Reach.{none_past_used, one_at_used, used_only}
use Rattle.zf_spec.proofs.laws_of_planes.needed_planes_of_a_block.Goals as goal

pub returns : goal.returns
returns c = record { none = none_past_used; one = one_at_used; only = used_only }
