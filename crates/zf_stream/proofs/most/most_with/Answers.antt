use Rattle.std.proofs.Common.{◌≡◌, ◌*◌, arith}
use Rattle.zf_spec.specs.Grid.{blocks}
use Rattle.zf_parse.specs.Parsing.{longest_code}
use Rattle.zf_stream.proofs.Lengths.{stream_fits}
use Rattle.zf_stream.proofs.most.most_with.Goals as goal

pub returns : goal.returns
returns c =
    let h = c.args.h.now in
    let same : c.blocks-2.result * c.args.longest ≡ blocks h.shape * longest_code h = cc (c.blocks-2.ensures.value, c.requires.value) in
    λ raw. omega (arith, stream_fits h raw c.dims-dims.ensures.shape, same, c.from.ensures, c.div_ceil.ensures)
