use Rattle.zf_const.proofs.Values.{value_said}
use Rattle.zf_const.proofs.laws.values_are_the_streams.Goals as goal

pub returns : goal.returns
returns c = value_said
