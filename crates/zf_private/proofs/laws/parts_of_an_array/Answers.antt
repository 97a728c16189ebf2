use Rattle.std.proofs.Common.{sym, subst, ◌<◌}
use Rattle.zf_private.proofs.Others.{owner_below, first_of-last}
use Rattle.zf_private.proofs.laws.parts_of_an_array.Goals as goal

pub returns-clause-all : goal.returns-clause-all
returns-clause-all c = λ blocks n b some below. owner_below blocks n b n (subst (λ m. b < m) (sym (first_of-last blocks n some)) below)
