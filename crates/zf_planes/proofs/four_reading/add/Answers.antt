use Rattle.std.proofs.Common.{arith}
use Rattle.zf_planes.proofs.Lanes.{lanes_put}
use Rattle.zf_planes.proofs.four_reading.add.Goals as goal

pub overflow_add-more : goal.overflow_add-more
overflow_add-more c =
    omega (arith, (lanes_put _ _ _ _ _ _ (omega arith) (omega arith) c.requires.gathered c.requires.below (omega (arith, c.requires.held, c.requires.few))).0)

pub put_down-requires-clause-gathered : goal.put_down-requires-clause-gathered
put_down-requires-clause-gathered c =
    (lanes_put _ _ _ _ _ _ (omega arith) (omega arith) c.requires.gathered c.requires.below (omega (arith, c.requires.held, c.requires.few))).1

pub returns-else-more-gt12-clause-gathered : goal.returns-else-more-gt12-clause-gathered
returns-else-more-gt12-clause-gathered c =
    (lanes_put _ _ _ _ _ _ (omega arith) (omega arith) c.requires.gathered c.requires.below (omega (arith, c.requires.held, c.requires.few))).1
