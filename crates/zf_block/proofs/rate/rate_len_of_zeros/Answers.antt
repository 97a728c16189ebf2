use Rattle.std.proofs.Common.{◌^◌, pos, replicate}
use Rattle.std.proofs.lemmas.List.{length-replicate}
use Rattle.zf_spec.{specs.Codes.{rate}, proofs.Raster.{length-fours}}
use Rattle.zf_block.proofs.Sizes.{pad-padded}
use Rattle.zf_block.proofs.rate.rate_len_of_zeros.Goals as goal

pub returns-clause-code : goal.returns-clause-code
unfolding rate
returns-clause-code g c =
    let d = c.args.d.count in
    rw (length-fours d, pad-padded d (replicate (4 ^ d) (pos 0)) (length-replicate (4 ^ d) (pos 0))) c.len_of_zeros.ensures.code
