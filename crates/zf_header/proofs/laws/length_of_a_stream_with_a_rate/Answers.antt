use Rattle.zf_header.proofs.Streams.{length-stream}
use Rattle.zf_header.proofs.laws.length_of_a_stream_with_a_rate.Goals as goal

pub returns : goal.returns
returns c h values is = length-stream h values is
