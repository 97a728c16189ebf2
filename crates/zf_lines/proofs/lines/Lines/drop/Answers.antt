use Rattle.std.proofs.Common.{arith}
use Rattle.zf_lines.proofs.lines.Lines.drop.Goals as goal

pub overflow_cast-lines : goal.overflow_cast-lines
overflow_cast-lines g c = let few = c.self.invariant.small.1 in record { fits = omega arith }
