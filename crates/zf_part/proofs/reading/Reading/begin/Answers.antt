use Rattle.std.proofs.Common.{arith}
use Rattle.zf_index.proofs.Read.{is_header}
use Rattle.zf_part.proofs.reading.Reading.begin.Goals as goal

pub invariant_of-result : goal.invariant_of-result
invariant_of-result g c = record {
  count = omega (arith, c.in_ok-index.ensures.ok.count);
  same_type = c.requires.same_type;
  mode = (is_header c.args.stream.now c.args.h.now c.requires.header).mode;
}
