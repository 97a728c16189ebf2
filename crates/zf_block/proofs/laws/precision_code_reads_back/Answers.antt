use Rattle.std.proofs.Common.{refl}
use Rattle.zf_spec.{specs.Codes.{read_prec}, proofs.BlockReading.{read_prec-prec}}
use Rattle.zf_block.proofs.ReadBack.{read_back}
use Rattle.zf_block.proofs.laws.precision_code_reads_back.Goals as goal

pub returns-clause-there : goal.returns-clause-there
returns-clause-there c = λ w p es block more old prefix lacks. cc (lacks.code es refl, read_prec-prec w p es block more)

pub returns-clause-values : goal.returns-clause-values
returns-clause-values c = λ w p es block read more old new prefix reads.
    (read_back (read_prec w p es) old new more prefix (read_prec-prec w p es block more) (reads.code es refl) reads.passed).0

pub returns-clause-passed : goal.returns-clause-passed
returns-clause-passed c = λ w p es block read more old new prefix reads.
    (read_back (read_prec w p es) old new more prefix (read_prec-prec w p es block more) (reads.code es refl) reads.passed).1
