use Rattle.zf_spec.proofs.Bytes.{filled_zeros, length-with_fill, filled_only}
use Rattle.zf_spec.proofs.laws_of_bytes.fill.Goals as goal

pub returns : goal.returns
returns c = record { zeros = filled_zeros; whole = length-with_fill; only = filled_only }
