use Rattle.zf_parse.proofs.Joined.{values_of_blocks-blocks}
use Rattle.zf_stream.proofs.laws.joined_blocks.Goals as goal

pub returns : goal.returns
returns c ns values long = values_of_blocks-blocks ns values long
