use Rattle.std.proofs.Common.{arith}
use Rattle.zf_pad.proofs.FourLines.{are_four_lines, four_fit}
use Rattle.zf_pad.proofs.storing.four_lines.Goals as goal

pub returns-clause-four : goal.returns-clause-four
returns-clause-four c = are_four_lines _ _ _ c.line_after.result c.dims-dims.ensures.shape c.requires.size c.requires.within (omega (arith, c.if-from-n-ne0.false)) (omega (arith, c.if-n-ne0.false)) c.line_after.ensures.known c.line_after.ensures.number (omega (arith, c.if-known-lt3.false))

pub returns-clause-fits : goal.returns-clause-fits
returns-clause-fits c = four_fit _ _ _ _ _ _ (returns-clause-four c)
