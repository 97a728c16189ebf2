use Rattle.std.proofs.Common.{sym, ◌+◌, ◌-◌, ◌*◌, length, arith, rules}
use Rattle.zf_header.specs.HeaderBits.{header_bits}
use Rattle.zf_store.{specs.Words.{all_bits}, proofs.Joined.{fill_of_word}}
use Rattle.zf_store.proofs.Opened.{rate_bytes_most, header_least}
use Rattle.zf_store.proofs.file.has_one_in_fill.Goals as goal

pub overflow_mul-fill : goal.overflow_mul-fill
overflow_mul-fill c = omega (arith, rate_bytes_most c.args.file.now c.args.h.now c.requires.header, c.rate_bytes-whole.ensures)

pub overflow_sub-whole : goal.overflow_sub-whole
overflow_sub-whole c =
    omega (arith, header_least c.args.file.now c.args.h.now c.requires.header, c.rate_bytes-whole.ensures)

pub word_of_bytes_at-requires : goal.word_of_bytes_at-requires
word_of_bytes_at-requires c =
    omega (arith, header_least c.args.file.now c.args.h.now c.requires.header, c.rate_bytes-whole.ensures, c.requires.enough)

pub returns : goal.returns
returns c =
    let h = c.args.h.now in
    let used = length (header_bits h) + all_bits h in
    let whole = c.rate_bytes-whole.result in
    let least = header_least c.args.file.now h c.requires.header in
    let same = fill_of_word c.args.file.now used whole (8 * whole - c.from.result - c.code_bits.result) c.word_of_bytes_at.result c.get_bits.result c.rate_bytes-whole.ensures (omega (arith, least, c.rate_bytes-whole.ensures))
    (omega (arith, c.requires.enough, c.rate_bytes-whole.ensures)) (omega (arith, c.header_len.ensures, c.code_bits.ensures.value)) c.word_of_bytes_at.ensures c.get_bits.ensures in
    rw (sym same) (search rules)
