use Rattle.std.proofs.Common.{refl, sym, pos, ◌^◌, replicate}
use Rattle.zf_block.proofs.Decoded.{passes_zeros}
use Rattle.zf_block.proofs.codec.pass_zeros.Goals as goal

pub returns-clause-zeros : goal.returns-clause-zeros
returns-clause-zeros g c =
    let d = c.args.d.count in
    let code = c.args.code.now in
    λ seen.
    (passes_zeros (g.C.BlockCode.len_at code) (g.C.BlockCode.planes_at code) c.args.reader.now c.pass_zeros.new.reader d _ refl
    g.T.Lane.width (g.C.BlockCode.back d) (replicate (4 ^ d) (pos 0)) (c.pass_zeros.ensures.passes.1 seen) (pos 0) c.args.d.range (c.pass_zeros.ensures.zeros seen) refl
    (sym (g.C.BlockCode.gives_zeros d c.args.d.range))).1
