-- Each table is the order of the places, by computation.
use Rattle.std.proofs.Common.{◌≡◌, sym, ap, arith}
use Rattle.zf_spec.specs.Ranks.{order}
use Rattle.zf_coef.proofs.ByRank.{order_within}
use Rattle.zf_coef.proofs.coefficient_order.order.Goals as goal

pub returns-in-2-clause-places : goal.returns-in-2-clause-places
returns-in-2-clause-places c = ap order (sym c.in-2.is)

pub returns-in-3-clause-places : goal.returns-in-3-clause-places
returns-in-3-clause-places c = ap order (sym c.in-3.is)

pub returns-in-3-clause-within : goal.returns-in-3-clause-within
returns-in-3-clause-within c = order_within c.args.d _ (returns-in-3-clause-places c)

pub returns-in_default-clause-places : goal.returns-in_default-clause-places
returns-in_default-clause-places c = let four : 4 ≡ c.args.d = omega arith in ap order four

pub returns-in_default-clause-within : goal.returns-in_default-clause-within
returns-in_default-clause-within c = order_within c.args.d _ (returns-in_default-clause-places c)
