use Rattle.std.proofs.Common.{length, ap, arith}
use Rattle.zf_bits.proofs.Reading.{length-reader_of}
use Rattle.zf_bits.proofs.excerpt.Excerpt.reader.Goals as goal

pub seek-requires : goal.seek-requires
seek-requires c =
    let held = c.self.invariant in
    omega (
      arith,
      held.at_within,
      ap (λ r. length r.all) c.new-reader.ensures,
      length-reader_of c.deref.result.now c.self.inside.bits 0 (omega (arith, held.within, ap length c.deref.ensures.value)),
    )
