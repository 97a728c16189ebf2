use Rattle.std.proofs.Common.{arith, rules}
use Rattle.zf_store.proofs.Opened.{header_least, header_most, moved_codes}
use Rattle.zf_store.proofs.file.words_of_file.Goals as goal

pub move_to_front-requires-clause-behind : goal.move_to_front-requires-clause-behind
move_to_front-requires-clause-behind c =
    omega (arith, header_least c.args.file.now c.args.h.now c.requires.header)

pub move_to_front-requires-clause-small : goal.move_to_front-requires-clause-small
move_to_front-requires-clause-small c =
    omega (arith, c.code_bits-len.ensures.bound, c.code_bits-len.ensures.value, c.header_len.ensures, header_most c.args.file.now c.args.h.now c.requires.header)

pub returns-clause-bits : goal.returns-clause-bits
returns-clause-bits c = search (rules, moved_codes)
