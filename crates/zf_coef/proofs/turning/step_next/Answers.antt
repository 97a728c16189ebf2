use Rattle.std.proofs.Common.{◌≡◌, ◌+◌, ◌*◌, ◌/◌, arith}
use Rattle.zf_coef.proofs.Steps.{paired_1, more_stepped, all_stepped}
use Rattle.zf_coef.proofs.turning.step_next.Goals as goal

pub loop-four-preserved : goal.loop-four-preserved
loop-four-preserved g c =
    let m = c.args.mask in
    let old = c.args.words.now in
    let words = c.loop-four.words in
    let swap = c.swap_next.ensures in
    let pair = 2 * c.loop-four.four in
    let at : pair + pair / 1 * 1 ≡ 4 * c.loop-four.four = omega arith in
    let behind : pair + 1 + (pair + 1) / 1 * 1 ≡ 4 * c.loop-four.four + 2 = omega arith in
    let next : 2 * (c.loop-four.four + 1) ≡ pair + 1 + 1 = omega arith in
    let one =
    more_stepped 1 1 m pair old words swap.between paired_1 (omega arith) c.loop-four.invariant
    (rw at swap.first) in
    rw next
    (more_stepped 1 1 m (pair + 1) old swap.between c.swap_next.new.words paired_1 (omega arith) one
    (rw behind swap.second))

pub returns : goal.returns
returns g c =
    all_stepped 1 1 c.args.mask (2 * c.loop-four.four) c.args.words.now c.loop-four.words paired_1 c.requires.mask (omega arith) (omega arith) c.loop-four.invariant
