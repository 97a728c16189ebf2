use Rattle.std.proofs.Common.{◌≡◌, arith}
use Rattle.zf_block.proofs.codec.read_any.Goals as goal

pub returns-in-2 : goal.returns-in-2
returns-in-2 g c = rw c.in-2.is c.read_block.ensures

pub returns-in-3 : goal.returns-in-3
returns-in-3 g c = rw c.in-3.is c.read_block-in-3.ensures

pub returns-in-2-count : goal.returns-in-2-count
returns-in-2-count g c = rw c.in-2-count.is c.read_block-in-2-count.ensures

pub returns-in-3-count : goal.returns-in-3-count
returns-in-3-count g c = rw c.in-3-count.is c.read_block-in-3-count.ensures

pub returns-in_default-count : goal.returns-in_default-count
returns-in_default-count g c =
    let four : c.args.d.count ≡ 4 = omega (arith, c.args.d.range, c.requires.block.1, c.in_default-count) in
    rw four c.read_block-in_default-count.ensures

pub returns-in_default : goal.returns-in_default
returns-in_default g c =
    let four : c.args.d.count ≡ 4 = omega (arith, c.args.d.range, c.requires.block.1, c.in_default) in
    rw four c.read_block-in_default.ensures
