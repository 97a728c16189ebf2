use Rattle.std.{proofs.Common.{rules}, proofs.lemmas.Bool.{leb-false}}
use Rattle.zf_planes.proofs.cursor.Cursor.sees.Goals as goal

pub returns-clause-short : goal.returns-clause-short
returns-clause-short c = search (rules, leb-false)
