use Rattle.zf_pad.proofs.Blocks.{scattered_block, other_block}
use Rattle.zf_pad.proofs.laws.scattered_blocks.Goals as goal

pub returns-clause-block : goal.returns-clause-block
returns-clause-block c = λ ns b layout e block old new h s. scattered_block ns b layout e h block old new s

pub returns-clause-others : goal.returns-clause-others
returns-clause-others c = λ ns b other layout e block old new h s lt differs. other_block ns b layout e h block old new other s lt differs
