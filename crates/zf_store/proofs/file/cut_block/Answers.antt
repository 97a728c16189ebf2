use Rattle.std.proofs.Common.{arith}
use Rattle.zf_store.proofs.Opened.{header_within, rate_bytes_most, parse_short}
use Rattle.zf_store.proofs.file.cut_block.Goals as goal

pub overflow_mul-behind : goal.overflow_mul-behind
overflow_mul-behind c = omega (arith, rate_bytes_most c.args.file.now c.args.h.now c.requires.header)

pub overflow_sub-behind : goal.overflow_sub-behind
overflow_sub-behind c = omega (arith, header_within c.args.file.now c.args.h.now c.requires.header)

pub returns : goal.returns
returns c =
    parse_short c.args.file.now c.args.h.now c.requires.header c.min.result c.requires.short
    (cc (c.min.ensures, c.header_len.ensures, c.from.ensures, c.from-2.ensures, c.rate.ensures.value, c.blocks-2.ensures.value))
