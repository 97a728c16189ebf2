use Rattle.std.proofs.Common.{arith}
use Rattle.zf_spec.proofs.Fields.{length-field, field-mod}
use Rattle.zf_bits.proofs.writer.BitWriter.write_reserved.Goals as goal

pub returns-then-n-gt0-clause-bits : goal.returns-then-n-gt0-clause-bits
returns-then-n-gt0-clause-bits c = grind (arith, field-mod c.args.n c.args.v, length-field c.args.n c.args.v)
