use Rattle.zf_coef.proofs.Lanes.{lanes_swapped}
use Rattle.zf_coef.proofs.turning.swap_lanes.Goals as goal

pub returns : goal.returns
returns c = lanes_swapped c.args.low c.args.high c.args.shift c.args.mask c.args.words.now c.requires.apart c.requires.within
