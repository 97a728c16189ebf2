use Rattle.std.proofs.Common.{rules}
use Rattle.zf_run.proofs.Sessions.{flushed_is, two_suits, still_array, rate_blocks}
use Rattle.zf_run.proofs.Pairing.{same_header, same_pair}
use Rattle.zf_run.proofs.pairs.PairChanging.flush_all.Goals as goal

pub flush-requires : goal.flush-requires
flush-requires g c = search (rules, rate_blocks)

pub returns : goal.returns
returns g c = search (rules, flushed_is, two_suits, still_array, same_header, same_pair)
