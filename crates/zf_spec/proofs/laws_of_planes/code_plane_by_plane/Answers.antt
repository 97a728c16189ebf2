use Rattle.zf_spec.proofs.Apart.{code-apart}
use Rattle.zf_spec.proofs.laws_of_planes.code_plane_by_plane.Goals as goal

pub returns : goal.returns
returns c = code-apart
