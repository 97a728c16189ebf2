use Rattle.zf_planes.proofs.ShortPlanes.{tail_code_of_entry}
use Rattle.zf_planes.proofs.entries.tail_code.Goals as goal

pub returns : goal.returns
returns c = rw (c.from.ensures, c.from-2.ensures) (tail_code_of_entry c.args.digits c.requires)
