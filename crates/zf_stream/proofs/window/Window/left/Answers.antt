use Rattle.std.proofs.Common.{rules, length, ap, arith}
use Rattle.zf_bits.proofs.Reading.{length-rest, length-reader_of}
use Rattle.zf_stream.proofs.window.Window.left.Goals as goal

pub returns-clause-count : goal.returns-clause-count
returns-clause-count c = search (rules, length-rest)

pub returns-clause-within : goal.returns-clause-within
returns-clause-within c =
    let w = c.self.inside in
    omega (
      arith,
      c.self.invariant.at_within,
      ap (λ v. v.reader.at) c.self.view_is,
      ap (λ v. length v.reader.all) c.self.view_is,
      length-reader_of w.words.items w.bits w.at c.self.invariant.within,
    )
