use Rattle.zf_spec.proofs.Bytes.{to_bits-to_bytes, to_bytes-to_bits}
use Rattle.zf_spec.proofs.laws_of_bytes.bits_and_bytes.Goals as goal

pub returns : goal.returns
returns c = record { bits = to_bits-to_bytes; bytes = to_bytes-to_bits }
