use Rattle.zf_index.proofs.Read.{is_header}
use Rattle.zf_part.proofs.block.read_block.Goals as goal

pub longest_code-requires-clause-mode : goal.longest_code-requires-clause-mode
longest_code-requires-clause-mode g c = (is_header c.args.stream.now c.args.h.now c.requires.stream.header).mode
