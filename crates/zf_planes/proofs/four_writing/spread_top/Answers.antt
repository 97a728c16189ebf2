use Rattle.std.proofs.Common.{rules, arith}
use Rattle.zf_planes.{specs.Spread.{top_digit}, proofs.TopPlanes.{spread_of_entries, spread-lt}}
use Rattle.zf_planes.proofs.four_writing.spread_top.Goals as goal

pub returns-clause-digits : goal.returns-clause-digits
returns-clause-digits c = search (rules, spread_of_entries)

pub returns-clause-small : goal.returns-clause-small
returns-clause-small c = omega (arith, returns-clause-digits c, spread-lt 16 (top_digit c.args.word))
