use Rattle.zf_narrow.proofs.Nearest.{restored_values}
use Rattle.zf_narrow.proofs.laws.restored_values_stand_for_numbers.Goals as goal

pub returns : goal.returns
returns c n bytes said good int32 = restored_values n bytes said good int32
