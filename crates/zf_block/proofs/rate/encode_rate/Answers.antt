use Rattle.std.proofs.Common.{refl}
use Rattle.zf_spec.specs.Codes.{rate}
use Rattle.zf_bits.proofs.Appending.{Appends-same}
use Rattle.zf_base.proofs.Extents.{length-used_axes}
use Rattle.zf_block.proofs.rate.encode_rate.Goals as goal

pub returns : goal.returns
unfolding rate
returns g c =
    let d = length-used_axes c.args.d.count c.args.e.now.size c.args.d.range.1 in
    record { code = Appends-same c.encode_part.ensures (rw d refl) }
