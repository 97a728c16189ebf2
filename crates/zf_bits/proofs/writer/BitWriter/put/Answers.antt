use Rattle.std.proofs.Common.{◌≡◌, ℕ, ◌+◌, ◌/◌, List, get_or, ap, ◌∙◌, arith, rules}
use Rattle.zf_bits.{specs.Writer.{Writer, room}, proofs.Written.{IsWritten-put, bits-put}}
use Rattle.zf_bits.proofs.writer.BitWriter.put.Goals as goal

pub invariant_of-self : goal.invariant_of-self
invariant_of-self c =
    let words = c.self.inside.words.items in
    let len = c.self.inside.len in
    let spare : room words len ≡ c.args.self.now.room = ap (λ (w : Writer). w.room) c.self.view_is in
    let here : c.word.result ≡ get_or words (len / 64) 0 = c.word.ensures ∙ ap (λ (ws : List ℕ). get_or ws (len / 64) 0) c.deref.ensures.value in
    IsWritten-put words len c.args.n c.args.v c.word.result (len + c.from.result) c.self.invariant here c.word.type_inv c.requires.some c.requires.width c.requires.in_bits (omega arith) (ap (λ n. len + n) c.from.ensures)

pub returns-clause-bits : goal.returns-clause-bits
returns-clause-bits c = search (rules, bits-put)
