use Rattle.zf_parse.proofs.Parts.{text_of_said}
use Rattle.zf_stream.proofs.laws.text_of_a_stream.Goals as goal

pub returns : goal.returns
returns c bytes said good = text_of_said bytes said good
