use Rattle.zf_spec.proofs.RawValues.{values_from-raw, raw-values_from, values_from_fit, length-values_from}
use Rattle.zf_spec.proofs.laws_of_bytes.values_and_raw_bytes.Goals as goal

pub returns : goal.returns
returns c = record { values = values_from-raw; bytes = raw-values_from; fit = values_from_fit; length = length-values_from }
