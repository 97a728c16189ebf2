use Rattle.std.proofs.Common.{◌≡◌, ◌+◌, ◌*◌, ◌%◌, length, arith}
use Rattle.zf_coef.proofs.Steps.{paired, more_stepped, all_stepped, in_lanes}
use Rattle.zf_coef.proofs.turning.step.Goals as goal

pub loop-pair-preserved : goal.loop-pair-preserved
loop-pair-preserved g c =
    let s = g.row.S in
    let done = 2 * c.loop-pair.pair in
    let more : 2 * (c.loop-pair.pair + 1) ≡ done + 2 = omega arith in
    rw more
    (more_stepped 2 s c.args.mask done c.args.words.now c.loop-pair.words c.swap_lanes.new.words
    (paired s c.requires.step) (omega arith) c.loop-pair.invariant c.swap_lanes.ensures)

pub returns : goal.returns
returns g c =
    let s = g.row.S in
    let long : length c.args.words.now ≡ g.row.N = omega arith in
    let whole : length c.args.words.now % (2 * s) ≡ 0 = rw long c.requires.whole in
    let fours = in_lanes s (length c.args.words.now) c.requires.step whole in
    all_stepped 2 s c.args.mask (2 * c.loop-pair.pair) c.args.words.now c.loop-pair.words (paired s c.requires.step) c.requires.mask whole (omega arith) c.loop-pair.invariant
