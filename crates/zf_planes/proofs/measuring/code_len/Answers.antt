use Rattle.zf_planes.proofs.Unpacking.{arrays_as_words}
use Rattle.zf_planes.proofs.measuring.code_len.Goals as goal

pub returns-clause-count : goal.returns-clause-count
returns-clause-count c = rw (arrays_as_words c.args.planes.now c.told-planes) at c.planes_len.ensures.count
