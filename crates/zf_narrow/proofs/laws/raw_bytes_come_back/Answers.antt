use Rattle.zf_narrow.proofs.RoundTrip.{demoted_bytes-promoted_bytes}
use Rattle.zf_narrow.proofs.laws.raw_bytes_come_back.Goals as goal

pub returns : goal.returns
returns c n bytes whole small = demoted_bytes-promoted_bytes n bytes whole small
