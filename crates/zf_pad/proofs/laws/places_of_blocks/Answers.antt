use Rattle.zf_pad.proofs.Blocks.{lies_within}
use Rattle.zf_pad.proofs.laws.places_of_blocks.Goals as goal

pub returns-clause-within : goal.returns-clause-within
returns-clause-within c = λ ns b n layout e h long. lies_within ns b layout e h n long
