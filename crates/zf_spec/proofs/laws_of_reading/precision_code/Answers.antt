use Rattle.zf_spec.proofs.BlockReading.{read_prec-prec, length-prec-le}
use Rattle.zf_spec.proofs.laws_of_reading.precision_code.Goals as goal

pub returns : goal.returns
returns c = record { read = read_prec-prec; length = length-prec-le }
