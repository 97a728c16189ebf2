use Rattle.std.proofs.Common.{arith, rules}
use Rattle.zf_spec.proofs.Bytes.{fill_whole, fill_short}
use Rattle.zf_bits.proofs.Appending.{Appends-same, length-Appends}
use Rattle.zf_bits.proofs.writer.BitWriter.pad_to_word.Goals as goal

pub returns-clause-bits : goal.returns-clause-bits
returns-clause-bits c = search (rules, Appends-same)

pub returns-clause-whole : goal.returns-clause-whole
returns-clause-whole c =
    let more = length-Appends (returns-clause-bits c) in omega (arith, fill_whole c.args.self.now.bits)

pub returns-clause-least : goal.returns-clause-least
returns-clause-least c =
    let more = length-Appends (returns-clause-bits c) in omega (arith, fill_short c.args.self.now.bits)
