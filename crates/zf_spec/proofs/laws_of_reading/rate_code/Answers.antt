use Rattle.zf_spec.proofs.BlockReading.{read_rate-rate, length-rate}
use Rattle.zf_spec.proofs.laws_of_reading.rate_code.Goals as goal

pub returns : goal.returns
returns c = record { read = read_rate-rate; length = length-rate }
