use Rattle.std.proofs.Common.{rules}
use Rattle.zf_bits.proofs.Reading.{length-rest, Reads-one}
use Rattle.zf_bits.proofs.reader.BitReader.next_bit.Goals as goal

pub returns : goal.returns
returns c = search (rules, Reads-one, length-rest)
