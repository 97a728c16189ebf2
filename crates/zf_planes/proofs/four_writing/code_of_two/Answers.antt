use Rattle.std.proofs.Common.{arith}
use Rattle.zf_planes.proofs.Tables.{pair_of_entry}
use Rattle.zf_planes.proofs.four_writing.code_of_two.Goals as goal

pub returns : goal.returns
returns c = rw (c.from-bits.ensures, c.from-len.ensures) (pair_of_entry c.args.n c.args.string c.entry_of_pair-entry.result c.requires.in_plane c.entry_of_pair-entry.ensures).0

pub invariant_of-result : goal.invariant_of-result
invariant_of-result c = record { within = omega (arith, (pair_of_entry c.args.n c.args.string c.entry_of_pair-entry.result c.requires.in_plane c.entry_of_pair-entry.ensures).1) }
