use Rattle.zf_spec.proofs.Apart.{kept_planes-apart}
use Rattle.zf_spec.proofs.laws_of_planes.kept_plane_by_plane.Goals as goal

pub returns : goal.returns
returns c = kept_planes-apart
