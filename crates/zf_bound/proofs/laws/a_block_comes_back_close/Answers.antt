use Rattle.zf_bound.proofs.Streams.{round_of_code}
use Rattle.zf_bound.proofs.laws.a_block_comes_back_close.Goals as goal

pub returns : goal.returns
returns c = round_of_code
