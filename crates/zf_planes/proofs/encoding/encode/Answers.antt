use Rattle.zf_planes.proofs.Unpacking.{arrays_as_words}
use Rattle.zf_planes.proofs.encoding.encode.Goals as goal

pub returns-clause-bits : goal.returns-clause-bits
returns-clause-bits c = rw (arrays_as_words c.args.planes.now c.told-planes) at c.write_planes_below.ensures.bits

pub returns-clause-count : goal.returns-clause-count
returns-clause-count c = rw (arrays_as_words c.args.planes.now c.told-planes) at c.write_planes_below.ensures.count
