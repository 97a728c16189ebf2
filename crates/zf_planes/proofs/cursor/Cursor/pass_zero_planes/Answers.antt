use Rattle.std.proofs.Common.{Bool, false, List, ◌++◌, replicate, ap, sym, ◌∙◌, arith}
use Rattle.zf_bits.specs.Reader.{rest}
use Rattle.zf_planes.{proofs.Passing.{Takes-rest}, proofs.Peeking.{zeros_ahead}}
use Rattle.zf_planes.proofs.cursor.Cursor.pass_zero_planes.Goals as goal

pub returns-then-count-gt0-clause-zeros : goal.returns-then-count-gt0-clause-zeros
returns-then-count-gt0-clause-zeros c =
    let k = c.min-count.result in
    let ahead = c.args.self.now in
    zeros_ahead (rest c.args.self.now.reader) ahead.bits ahead.count k c.args.self.now.window.bits (omega arith) (omega (arith, c.min-count.ensures, c.min.ensures, c.from.ensures)) (omega (arith, c.min-count.ensures, c.min.ensures))
    ∙ ap (λ (s : List Bool). replicate k false ++ s) (sym (Takes-rest c.pass.ensures.taken))
