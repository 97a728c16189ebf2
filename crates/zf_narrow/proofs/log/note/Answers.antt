use Rattle.zf_dev.proofs.Noting.{noted-more}
use Rattle.zf_narrow.proofs.log.note.Goals as goal

pub returns : goal.returns
returns c = noted-more _ _ _ _ c.note.ensures
