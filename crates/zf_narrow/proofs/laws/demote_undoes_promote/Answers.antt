use Rattle.zf_narrow.proofs.Back.{demoted-promoted}
use Rattle.zf_narrow.proofs.laws.demote_undoes_promote.Goals as goal

pub returns : goal.returns
returns c n v is = demoted-promoted n v is
