use Rattle.zf_spec.proofs.BlockReading.{read_rev-rev, length-rev-le}
use Rattle.zf_spec.proofs.laws_of_reading.reversible_code.Goals as goal

pub returns : goal.returns
returns c = record { read = read_rev-rev; length = length-rev-le }
