use Rattle.std.{proofs.Common.{◌-◌, arith}, proofs.lemmas.Nat.{and_mask}, proofs.lemmas.Nat.Bits.{ones_shr}}
use Rattle.zf_bits.proofs.slots.low_bits.Goals as goal

pub returns-else-n-eq0 : goal.returns-else-n-eq0
returns-else-n-eq0 c = grind (arith, ones_shr 64 (64 - c.args.n) (omega arith), and_mask c.args.v c.args.n)
