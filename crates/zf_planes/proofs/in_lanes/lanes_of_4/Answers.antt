use Rattle.zf_planes.proofs.LaneTables.{one_of_digits}
use Rattle.zf_planes.proofs.in_lanes.lanes_of_4.Goals as goal

pub returns-clause-below : goal.returns-clause-below
returns-clause-below c = (one_of_digits c.args.digits c.requires.digits).1
