use Rattle.zf_planes.proofs.LanesAhead.{sixteen_read}
use Rattle.std.proofs.Common.{refl}
use Rattle.zf_planes.proofs.four_reading.read_sixteen.Goals as goal

pub returns-clause-read : goal.returns-clause-read
returns-clause-read c = sixteen_read c.args.most _ _ _ c.args.cursor.now.window refl refl refl c.requires.there c.requires.four c.lanes_of_16-lanes.ensures.digits c.lanes_of_16-lanes.ensures.below c.pass.ensures.taken
