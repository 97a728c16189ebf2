use Rattle.zf_spec.proofs.KeptSame.{kept_planes-planes_in}
use Rattle.zf_spec.proofs.laws_of_reading.kept_planes.Goals as goal

pub returns : goal.returns
returns c = kept_planes-planes_in
