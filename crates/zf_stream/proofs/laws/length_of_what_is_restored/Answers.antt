use Rattle.zf_parse.proofs.Enough.{length-restored_text}
use Rattle.zf_stream.proofs.laws.length_of_what_is_restored.Goals as goal

pub returns : goal.returns
returns c bytes good = length-restored_text bytes good
