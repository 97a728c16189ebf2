use Rattle.std.proofs.Common.{refl}
use Rattle.zf_spec.proofs.BlockReading.{read_rate-rate}
use Rattle.zf_bits.{specs.Reader.{rest}, proofs.Reading.{Reads-same}}
use Rattle.zf_block.proofs.ReadBack.{rate_bits}
use Rattle.zf_block.proofs.laws.rate_code_reads_back.Goals as goal

pub returns-clause-values : goal.returns-clause-values
returns-clause-values c = λ w budget es block read more old new prefix reads.
    cc (reads.code es refl, rate_bits w budget es block more (rest old) prefix, read_rate-rate w budget es block)

pub returns-clause-passed : goal.returns-clause-passed
returns-clause-passed c = λ w budget es block read more old new prefix reads. Reads-same reads.passed (rate_bits w budget es block more (rest old) prefix)
