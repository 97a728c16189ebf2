use Rattle.std.proofs.Common.{refl}
use Rattle.zf_spec.{specs.Codes.{read_rev}, proofs.BlockReading.{read_rev-rev}}
use Rattle.zf_block.proofs.ReadBack.{read_back}
use Rattle.zf_block.proofs.laws.reversible_code_reads_back.Goals as goal

pub returns-clause-there : goal.returns-clause-there
returns-clause-there c = λ w es block more old ok prefix lacks. cc (lacks.code es refl, read_rev-rev w es block more ok.narrow ok.extent ok.values)

pub returns-clause-values : goal.returns-clause-values
returns-clause-values c = λ w es block read more old new ok prefix reads.
    (read_back (read_rev w es) old new more prefix (read_rev-rev w es block more ok.narrow ok.extent ok.values) (reads.code es refl) reads.passed).0

pub returns-clause-passed : goal.returns-clause-passed
returns-clause-passed c = λ w es block read more old new ok prefix reads.
    (read_back (read_rev w es) old new more prefix (read_rev-rev w es block more ok.narrow ok.extent ok.values) (reads.code es refl) reads.passed).1
