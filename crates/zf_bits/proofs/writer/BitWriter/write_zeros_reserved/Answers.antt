use Rattle.std.proofs.Common.{◌≡◌, ap, arith, rules}
use Rattle.std.proofs.lemmas.List.{length-replicate}
use Rattle.zf_bits.{specs.Writer.{Writer, room}, proofs.Written.{IsWritten-zeros, bits-zeros}}
use Rattle.zf_bits.proofs.writer.BitWriter.write_zeros_reserved.Goals as goal

pub invariant_of-self : goal.invariant_of-self
invariant_of-self c =
    let words = c.self.inside.words.items in
    let len = c.self.inside.len in
    let spare : room words len ≡ c.args.self.now.room = ap (λ (w : Writer). w.room) c.self.view_is in
    IsWritten-zeros words len c.args.count c.self.invariant (omega (arith, c.requires))

pub returns-clause-bits : goal.returns-clause-bits
returns-clause-bits c = search (rules, bits-zeros, length-replicate)
