use Rattle.zf_bits.proofs.Written.{words_filled}
use Rattle.zf_bits.proofs.writer.BitWriter.words.Goals as goal

pub returns-clause-bits : goal.returns-clause-bits
returns-clause-bits c = cc (words_filled c.self.inside.words.items c.self.inside.len c.self.invariant)
