use Rattle.std.proofs.Common.{◌^◌, false, replicate, ap, sym, ◌∙◌}
use Rattle.zf_spec.specs.Codes.{planes}
use Rattle.zf_block.proofs.ZeroPlanes.{planes-zeros}
use Rattle.zf_block.proofs.codec.len_of_zeros.Goals as goal

pub returns-clause-code : goal.returns-clause-code
returns-clause-code g c =
    let d = c.args.d.count in
    let w = g.T.Lane.width in
    let code_of = g.C.BlockCode.code_of c.args.code.now in
    ap (λ vs. code_of (planes w d vs)) (g.C.BlockCode.keeps_zeros d c.args.d.range)
    ∙ ap code_of (planes-zeros w d c.args.d.range)
    ∙ ap (λ n. code_of (replicate n (replicate (4 ^ d) false))) (sym g.met.T.Lane.bits_of_width)
    ∙ c.len_of_zeros.ensures.code
