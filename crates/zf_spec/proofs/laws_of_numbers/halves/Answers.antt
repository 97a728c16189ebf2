use Rattle.zf_spec.proofs.Halves.{floor_half_at_most, floor_half_above, floor_half_only}
use Rattle.zf_spec.proofs.laws_of_numbers.halves.Goals as goal

pub returns : goal.returns
returns c = record { at_most = floor_half_at_most; above = floor_half_above; only = floor_half_only }
