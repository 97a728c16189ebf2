use Rattle.std.proofs.Common.{rules}
use Rattle.std.proofs.lemmas.List.{with_items_is}
use Rattle.zf_bits.proofs.excerpt.Excerpt.take.Goals as goal

pub returns-clause-bits : goal.returns-clause-bits
returns-clause-bits c = search (rules, with_items_is)
