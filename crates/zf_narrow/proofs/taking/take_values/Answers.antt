use Rattle.std.{proofs.Common.{rules}, proofs.lemmas.List.{length-take-le}}
use Rattle.zf_narrow.proofs.Taken.{two_pieces}
use Rattle.zf_narrow.proofs.taking.take_values.Goals as goal

pub returns-then-held-count-clause-ok : goal.returns-then-held-count-clause-ok
returns-then-held-count-clause-ok g c = search (rules, length-take-le, two_pieces)
