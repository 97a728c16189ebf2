use Rattle.zf_spec.proofs.PlaneCode.{length-code-le}
use Rattle.zf_spec.proofs.laws_of_planes.length_of_codes.Goals as goal

pub returns : goal.returns
returns c = length-code-le
