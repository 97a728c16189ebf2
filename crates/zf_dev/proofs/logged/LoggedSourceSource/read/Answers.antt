use Rattle.zf_dev.proofs.Noting.{Gives-noted, ended-noted}
use Rattle.zf_dev.proofs.logged.LoggedSourceSource.read.Goals as goal

pub returns-clause-gave : goal.returns-clause-gave
returns-clause-gave g c = Gives-noted _ _ _ _ c.note.ensures

pub returns-clause-ended : goal.returns-clause-ended
returns-clause-ended g c = ended-noted _ _ _ c.read.new.buf c.in_ok-count.count c.note.ensures
