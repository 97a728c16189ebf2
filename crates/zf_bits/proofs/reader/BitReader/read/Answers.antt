use Rattle.std.proofs.Common.{◌≡◌, ◌≤◌, length, take, arith, sym, ap, ◌∙◌, rules}
use Rattle.std.proofs.lemmas.List.{length-take-le}
use Rattle.zf_spec.{specs.Numbers.{field}, proofs.Fields.{field-number}}
use Rattle.zf_bits.specs.Reader.{rest}
use Rattle.zf_bits.proofs.Reading.{reader_of, take-rest, length-rest, Reads-take, Reads-same}
use Rattle.zf_bits.proofs.reader.BitReader.read.Goals as goal

pub returns-clause-value : goal.returns-clause-value
returns-clause-value c = search (rules, length-rest, take-rest)

pub returns-clause-reads : goal.returns-clause-reads
returns-clause-reads c =
    let r = c.self.inside in
    let left : c.args.n ≤ length (rest c.args.self.now) = omega (arith, c.left.ensures.count, c.from.ensures) in
    let fits = rw (← c.self.view_is) at left in
    let value = rw (← c.self.view_is) at (returns-clause-value c) in
    let next = rest (reader_of r.words.now r.bits r.at) in
    let same : field c.args.n c.get_bits-value.result ≡ take c.args.n next = ap (field c.args.n) value ∙ field-number c.args.n (take c.args.n next) (length-take-le c.args.n next fits) in
    rw (← c.self.view_is, c.from-2.ensures) (Reads-same (Reads-take (reader_of r.words.now r.bits r.at) c.args.n fits) (sym same))
