-- The file begins with the header, so that its mode has a number.
use Rattle.zf_index.proofs.Read.{is_header}
use Rattle.zf_index.proofs.index.Spans.build.Goals as goal

pub header_len-requires : goal.header_len-requires
header_len-requires g c = (is_header c.args.file.now c.args.h.now c.requires.header).mode
