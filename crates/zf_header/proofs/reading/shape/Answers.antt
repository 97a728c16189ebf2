-- The sizes that were read are no shape only where they are too many values.
use Rattle.std.proofs.Common.{rules}
use Rattle.zf_header.proofs.Bits.{number_at_below}
use Rattle.zf_header.proofs.Faults.{take-sizes, shape_fault-sizes_in, too_large}
use Rattle.zf_header.proofs.reading.shape.Goals as goal

pub returns-clause-fault : goal.returns-clause-fault
returns-clause-fault c = search (rules, number_at_below, take-sizes, shape_fault-sizes_in, too_large)
