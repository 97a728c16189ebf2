use Rattle.std.proofs.Common.{refl}
use Rattle.zf_spec.specs.Codes.{prec}
use Rattle.zf_bits.proofs.Appending.{Appends-same}
use Rattle.zf_base.proofs.Extents.{length-used_axes}
use Rattle.zf_block.proofs.AfterReserve.{after_reserve}
use Rattle.zf_block.proofs.precision.encode_prec.Goals as goal

pub returns-clause-ok : goal.returns-clause-ok
unfolding prec
returns-clause-ok g c =
    let d = length-used_axes c.args.d.count c.args.e.now.size c.args.d.range.1 in
    after_reserve c.in_ok-reserve.ensures.bits c.in_ok-reserve.ensures.no_less (Appends-same c.encode_part.ensures (rw (d, g.met.T.Lane.bits_of_width) refl))
