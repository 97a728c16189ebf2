use Rattle.zf_dev.proofs.Noting.{noted-more}
use Rattle.zf_dev.proofs.logged.LoggedSinkSink.write.Goals as goal

pub returns-clause-appended : goal.returns-clause-appended
returns-clause-appended g c = noted-more _ _ _ _ c.note.ensures
