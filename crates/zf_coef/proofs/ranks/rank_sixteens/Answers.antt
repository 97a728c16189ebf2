use Rattle.std.proofs.Common.{◌≡◌, ◌*◌, arith}
use Rattle.zf_coef.proofs.ranks.rank_sixteens.Goals as goal

pub loop-sixteen-preserved : goal.loop-sixteen-preserved
loop-sixteen-preserved g c = grind arith

pub returns-clause-filled : goal.returns-clause-filled
returns-clause-filled g c =
    let all : 16 * c.loop-sixteen.sixteen ≡ 256 = omega arith in rw all at c.loop-sixteen.invariant.filled
