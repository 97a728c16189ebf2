-- The fields, one after another.
use Rattle.std.proofs.Common.{rules, refl}
use Rattle.zf_spec.specs.Stream.{magic}
use Rattle.zf_bits.proofs.Appending.{Appends-append, Appends-same}
use Rattle.zf_header.proofs.Parts.{header_bits-parts, length-header_bits, length-header_bits_le}
use Rattle.zf_header.proofs.writing.write.Goals as goal

pub returns : goal.returns
returns c =
    let prefix =
    Appends-append (Appends-append (Appends-append c.write_reserved.ensures.bits c.write_reserved-2.ensures.bits) c.write_reserved-3.ensures.bits) c.write_reserved-4.ensures.bits in
    let rest =
    Appends-append (Appends-append (Appends-append prefix c.write_sizes.ensures.bits) c.write_reserved-5.ensures.bits) c.write_long_form.ensures.bits in
    let bits = Appends-same rest (header_bits-parts c.args.h.now magic c.from.result c.from-2.result c.from-3.result c.from-4.result refl (search rules) (search rules) (search rules) (search rules)) in
    search (rules, length-header_bits, length-header_bits_le)
