-- The four fields, one after another.
use Rattle.std.proofs.Common.{rules}
use Rattle.zf_bits.proofs.Appending.{Appends-append, Appends-same}
use Rattle.zf_header.proofs.writing.write_long_form.Goals as goal

pub returns-then-rate-gt-MAX_SHORT_RATE-clause-bits :
    goal.returns-then-rate-gt-MAX_SHORT_RATE-clause-bits
returns-then-rate-gt-MAX_SHORT_RATE-clause-bits c =
    let fields =
    Appends-append (Appends-append (Appends-append c.write_reserved.ensures.bits c.write_reserved-2.ensures.bits) c.write_reserved-3.ensures.bits) c.write_reserved-4.ensures.bits in
    Appends-same fields (search rules)
