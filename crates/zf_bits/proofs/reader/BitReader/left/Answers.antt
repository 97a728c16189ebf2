use Rattle.std.proofs.Common.{arith}
use Rattle.zf_bits.proofs.Reading.{length-rest, length-reader_of}
use Rattle.zf_bits.proofs.reader.BitReader.left.Goals as goal

pub returns-clause-count : goal.returns-clause-count
returns-clause-count c =
    let r = c.self.inside in rw (← c.self.view_is) (omega (arith, length-rest r.words.now r.bits r.at c.self.invariant.0))

pub returns-clause-within : goal.returns-clause-within
returns-clause-within c =
    let r = c.self.inside in rw (← c.self.view_is) (omega (arith, length-reader_of r.words.now r.bits r.at c.self.invariant.0))
