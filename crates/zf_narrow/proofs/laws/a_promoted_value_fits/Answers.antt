use Rattle.zf_narrow.proofs.Back.{promoted_fits}
use Rattle.zf_narrow.proofs.laws.a_promoted_value_fits.Goals as goal

pub returns : goal.returns
returns c n v is = promoted_fits n v is
