use Rattle.std.proofs.Common.{arith}
use Rattle.zf_planes.proofs.Lanes.{put_words}
use Rattle.zf_planes.proofs.four_reading.put_down.Goals as goal

pub overflow_add-result : goal.overflow_add-result
overflow_add-result c = omega (arith, (put_words _ _ _ _ c.requires.gathered c.requires.room).0.0)

pub overflow_add-result-2 : goal.overflow_add-result-2
overflow_add-result-2 c = omega (arith, (put_words _ _ _ _ c.requires.gathered c.requires.room).0.1)

pub overflow_add-result-3 : goal.overflow_add-result-3
overflow_add-result-3 c = omega (arith, (put_words _ _ _ _ c.requires.gathered c.requires.room).0.2)

pub overflow_add-result-4 : goal.overflow_add-result-4
overflow_add-result-4 c = omega (arith, (put_words _ _ _ _ c.requires.gathered c.requires.room).0.3)

pub returns-clause-gathered : goal.returns-clause-gathered
returns-clause-gathered c = (put_words _ _ _ _ c.requires.gathered c.requires.room).1

pub returns-clause-planes : goal.returns-clause-planes
returns-clause-planes c = (put_words _ _ _ _ c.requires.gathered c.requires.room).2
