use Rattle.std.proofs.Common.{rules}
use Rattle.zf_array.proofs.Standing.{joined_after, header_step}
use Rattle.zf_array.proofs.Coded.{block_there, line_there, coded_empty, fits_stored, stored_coded}
use Rattle.zf_array.proofs.array.Array.store_code.Goals as goal

pub store-requires : goal.store-requires
store-requires g c = search (rules, block_there, line_there)

pub invariant_of-self : goal.invariant_of-self
invariant_of-self g c = search (rules, fits_stored, coded_empty, joined_after)

pub returns : goal.returns
returns g c = search (rules, stored_coded, coded_empty, fits_stored, header_step)
