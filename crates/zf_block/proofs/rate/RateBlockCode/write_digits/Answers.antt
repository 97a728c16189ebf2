use Rattle.std.proofs.Common.{refl}
use Rattle.zf_bits.proofs.Appending.{Appends-same}
use Rattle.zf_block.{proofs.UpperPlanes.{all_first}}
use Rattle.zf_block.proofs.rate.RateBlockCode.write_digits.Goals as goal

pub returns-then-reaches_upper : goal.returns-then-reaches_upper
returns-then-reaches_upper g c =
    let first = all_first c.from-bits.result c.min-few.result g.T.Lane.WIDTH c.args.digits.now (c.if-reaches_upper.ensures refl) in
    Appends-same c.write_upper.ensures (cc (c.from-bits.ensures, first))

pub returns-then-reaches_upper-2 : goal.returns-then-reaches_upper-2
returns-then-reaches_upper-2 g c =
    let first = all_first c.from-bits.result c.min-half.result g.T.Lane.WIDTH c.args.digits.now (c.if-reaches_upper-2.ensures refl) in
    Appends-same c.write_upper-then-reaches_upper-2.ensures (cc (c.from-bits.ensures, first))
