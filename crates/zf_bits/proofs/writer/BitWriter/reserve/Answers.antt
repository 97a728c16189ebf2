use Rattle.std.proofs.Common.{◌≡◌, ◌+◌, ap, arith, rules}
use Rattle.zf_bits.{specs.Writer.{Writer, room}, proofs.Written.{IsWritten-resized, bits-resized}}
use Rattle.zf_bits.proofs.writer.BitWriter.reserve.Goals as goal

pub invariant_of-self-2 : goal.invariant_of-self-2
invariant_of-self-2 c =
    let words = c.self.inside.words.items in
    let len = c.self.inside.len in
    let spare : room words len ≡ c.args.self.now.room = ap (λ (w : Writer). w.room) c.self.view_is in
    IsWritten-resized words c.resize.new.self.items len (c.div_ceil-count.result + 1) c.self.inside.words.len c.self.invariant c.in_ok-resize.ensures.items (omega arith) (omega (arith, c.room.ensures, c.div_ceil-count.ensures)) (omega arith)

pub returns-clause-bits : goal.returns-clause-bits
returns-clause-bits c = search (rules, bits-resized)
