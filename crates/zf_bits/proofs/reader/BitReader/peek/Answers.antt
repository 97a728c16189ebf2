use Rattle.std.proofs.Common.{rules}
use Rattle.zf_bits.proofs.Reading.{take-peeked}
use Rattle.zf_bits.proofs.reader.BitReader.peek.Goals as goal

pub returns : goal.returns
returns c = search (rules, take-peeked)
