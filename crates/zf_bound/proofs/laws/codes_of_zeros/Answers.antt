use Rattle.std.proofs.Common.{refl}
use Rattle.zf_block.specs.WholePlanes.{rate_whole_from, whole_from, planes_from}
use Rattle.zf_bound.proofs.laws.codes_of_zeros.Goals as goal

pub returns : goal.returns
unfolding rate_whole_from whole_from planes_from
returns c = record { enough = refl; one_less = refl; greatest = refl; error = refl }
