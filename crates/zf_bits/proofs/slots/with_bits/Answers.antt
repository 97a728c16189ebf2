use Rattle.std.proofs.Common.{◌+◌, ◌-◌, arith}
use Rattle.zf_bits.proofs.Words.{word_put}
use Rattle.zf_bits.proofs.slots.with_bits.Goals as goal

pub overflow_add-result : goal.overflow_add-result
overflow_add-result c =
    let k = 64 - (c.args.shift + c.args.n) in
    let put = word_put 64 c.args.shift c.args.n k c.args.word c.args.v c.low_bits-old.result c.low_bits-new.result (omega arith) c.ranges.word.fits c.low_bits-old.ensures c.low_bits-new.ensures in
    omega (arith, put.0, put.1)

pub returns : goal.returns
returns c =
    let k = 64 - (c.args.shift + c.args.n) in
    let put = word_put 64 c.args.shift c.args.n k c.args.word c.args.v c.low_bits-old.result c.low_bits-new.result (omega arith) c.ranges.word.fits c.low_bits-old.ensures c.low_bits-new.ensures in
    put.2
