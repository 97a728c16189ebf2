use Rattle.std.proofs.Common.{ℕ, List, ◌++◌, drop, replicate, ◌∙◌, ap, arith}
use Rattle.zf_bits.proofs.Written.{IsWritten-cleared}
use Rattle.zf_bits.proofs.writer.BitWriter.clear.Goals as goal

pub invariant_of-self : goal.invariant_of-self
invariant_of-self c =
    let used = c.div_ceil-used.result in
    IsWritten-cleared c.self.inside.words.items c.blank.new.words c.self.inside.len used c.self.inside.words.len c.self.invariant
    (c.blank.ensures ∙ ap (λ (ws : List ℕ). replicate used 0 ++ drop used ws) c.deref_mut.ensures.value) c.div_ceil-used.ensures (omega arith)
