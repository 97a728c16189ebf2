use Rattle.std.proofs.Common.{◌+ℤ◌}
use Rattle.zf_narrow.{specs.Values.{floor_div, step_of, middle_of}, proofs.Back.{nearest_narrow}}
use Rattle.zf_narrow.proofs.laws.a_demoted_value_is_narrow.Goals as goal

pub returns : goal.returns
returns c n v = nearest_narrow n (floor_div v (step_of n) +ℤ middle_of n)
