use Rattle.std.proofs.Common.{rules}
use Rattle.zf_bits.proofs.Reading.{Reads-take}
use Rattle.zf_bits.proofs.reader.BitReader.skip.Goals as goal

pub returns : goal.returns
returns c = search (rules, Reads-take)
