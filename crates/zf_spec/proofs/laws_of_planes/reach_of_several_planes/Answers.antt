use Rattle.zf_spec.proofs.Apart.{none_past_all, one_in_some, reach_of_all_only}
use Rattle.zf_spec.proofs.laws_of_planes.reach_of_several_planes.Goals as goal

pub returns : goal.returns
returns c = record { none = none_past_all; one = one_in_some; only = reach_of_all_only }
