use Rattle.std.proofs.Common.{arith}
use Rattle.zf_pad.proofs.StoredLines.{known_next}
use Rattle.zf_pad.proofs.storing.line_after.Goals as goal

pub returns-clause-known : goal.returns-clause-known
returns-clause-known c = known_next _ c.args.known.now c.args.number c.requires.known c.if-known-eq0.false (grind (arith, c.if-known-number.false))
