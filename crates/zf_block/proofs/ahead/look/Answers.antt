use Rattle.zf_bits.specs.Reader.{rest}
use Rattle.zf_planes.proofs.Peeking.{peeked}
use Rattle.zf_block.proofs.ahead.look.Goals as goal

pub returns : goal.returns
returns c k few there = peeked (rest c.args.reader.now) c.peek.result k c.peek.ensures few there
