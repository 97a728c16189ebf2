use Rattle.std.proofs.Common.{rules}
use Rattle.zf_array.proofs.Standing.{joined_after}
use Rattle.zf_array.proofs.Coded.{block_there, line_there, loaded, fits_loaded, held_loaded}
use Rattle.zf_array.proofs.array.Array.load_code.Goals as goal

pub load-requires : goal.load-requires
load-requires g c = search (rules, block_there, line_there)

pub invariant_of-self : goal.invariant_of-self
invariant_of-self g c = search (rules, fits_loaded, joined_after)

pub returns : goal.returns
returns g c = search (rules, loaded, held_loaded)
