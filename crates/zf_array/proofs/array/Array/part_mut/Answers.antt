use Rattle.std.proofs.Common.{rules}
use Rattle.zf_array.proofs.Lent.{tag_is, joined_lent, ends_as, shown, long, state_spliced, header_spliced}
use Rattle.zf_array.proofs.array.Array.part_mut.Goals as goal

pub part_mut-requires : goal.part_mut-requires
part_mut-requires g c = search (rules, tag_is)

pub invariant_of-self-lent : goal.invariant_of-self-lent
invariant_of-self-lent g c = search (rules, joined_lent)

pub returns : goal.returns
returns g c = search (rules, ends_as, shown, long, state_spliced, header_spliced)
