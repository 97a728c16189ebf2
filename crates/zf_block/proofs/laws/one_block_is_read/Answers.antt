use Rattle.zf_spec.{specs.Grid.{fours}, proofs.Raster.{length-fours}}
use Rattle.zf_block.proofs.ReadBack.{existing_values-fours}
use Rattle.zf_block.proofs.laws.one_block_is_read.Goals as goal

pub returns-clause-whole : goal.returns-clause-whole
returns-clause-whole c = existing_values-fours

pub returns-clause-one_answer : goal.returns-clause-one_answer
returns-clause-one_answer c = λ w d old new b reads lacks. cc (lacks.code (fours d) (length-fours d), reads.code (fours d) (length-fours d))

pub returns-clause-one_answer_of_planes : goal.returns-clause-one_answer_of_planes
returns-clause-one_answer_of_planes c = λ w d p old new b reads lacks. cc (lacks.code (fours d) (length-fours d), reads.code (fours d) (length-fours d))
