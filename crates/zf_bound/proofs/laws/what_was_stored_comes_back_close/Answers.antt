use Rattle.zf_bound.proofs.Stored.{stored_close}
use Rattle.zf_bound.proofs.laws.what_was_stored_comes_back_close.Goals as goal

pub returns : goal.returns
returns c = stored_close
