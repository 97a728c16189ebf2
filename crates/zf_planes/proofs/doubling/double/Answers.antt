use Rattle.std.proofs.Common.{arith}
use Rattle.zf_planes.proofs.Doubled.{double_of_entry}
use Rattle.zf_planes.proofs.doubling.double.Goals as goal

pub returns-clause-small : goal.returns-clause-small
returns-clause-small c = rw (c.doubled_entry-entry.ensures.bits, c.doubled_entry-entry.ensures.len) (double_of_entry c.args.digits c.requires).1

pub returns-clause-len : goal.returns-clause-len
returns-clause-len c = omega (arith, (double_of_entry c.args.digits c.requires).0)
