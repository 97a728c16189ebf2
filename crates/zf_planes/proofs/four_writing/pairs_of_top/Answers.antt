use Rattle.std.proofs.Common.{arith}
use Rattle.zf_planes.{specs.Spread.{top_digit}, proofs.Lone.{pairs-lt}, proofs.TopPlanes.{spread_of_bytes}}
use Rattle.zf_planes.proofs.four_writing.pairs_of_top.Goals as goal

pub returns-clause-digits : goal.returns-clause-digits
returns-clause-digits c = omega (arith, spread_of_bytes 4 c.args.word c.pairs_of_byte.result c.pairs_of_byte-2.result (omega arith) c.pairs_of_byte.ensures.digits c.pairs_of_byte-2.ensures.digits, c.pairs_of_byte-2.ensures.small)

pub returns-clause-small : goal.returns-clause-small
returns-clause-small c = omega (arith, returns-clause-digits c, pairs-lt 16 (top_digit c.args.word))
