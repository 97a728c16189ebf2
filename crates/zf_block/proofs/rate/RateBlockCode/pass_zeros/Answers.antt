use Rattle.std.proofs.Common.{◌^◌, min, ap, ◌∙◌}
use Rattle.zf_bits.specs.Reader.{rest}
use Rattle.zf_block.proofs.ZeroPlanes.{size_some, rate_planes-zeros}
use Rattle.zf_block.proofs.rate.RateBlockCode.pass_zeros.Goals as goal

pub returns-then-are_zeros-clause-zeros : goal.returns-then-are_zeros-clause-zeros
returns-then-are_zeros-clause-zeros g c = λ seen.
    let d = c.args.d.count in
    let width = g.T.Lane.WIDTH in
    let bits = c.args.self.now.bits in
    let top = c.min.ensures ∙ ap (min bits) c.WIDTH.ensures in
    (width, rate_planes-zeros g.T.Lane.width (4 ^ d) (rest c.args.reader.now) (size_some d) width bits c.min.result top (c.are_zeros.ensures.0 c.if-are_zeros.true).1)
