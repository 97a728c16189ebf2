use Rattle.zf_spec.proofs.Reach.{none_past_reach, one_at_reach, reach_only}
use Rattle.zf_spec.proofs.laws_of_planes.reach_of_a_plane.Goals as goal

pub returns : goal.returns
returns c = record { none = none_past_reach; one = one_at_reach; only = reach_only }
