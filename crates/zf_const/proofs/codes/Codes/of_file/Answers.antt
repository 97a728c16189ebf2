use Rattle.std.proofs.Common.{rules}
use Rattle.zf_spec.proofs.Bytes.{length-to_bits}
use Rattle.zf_index.proofs.Read.{is_header}
use Rattle.zf_const.proofs.codes.Codes.of_file.Goals as goal

pub longest_code-requires-clause-mode : goal.longest_code-requires-clause-mode
longest_code-requires-clause-mode g c = (is_header c.args.file.items c.args.h.now c.requires.header).mode

pub invariant_of-result : goal.invariant_of-result
invariant_of-result g c = search (rules, is_header, length-to_bits)
