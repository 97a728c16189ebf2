use Rattle.zf_spec.proofs.Full.{length-planes_in, planes_in-length, full_begins, full_only}
use Rattle.zf_spec.proofs.laws_of_reading.planes_in_bits.Goals as goal

pub returns : goal.returns
returns c = record { count = length-planes_in; size = planes_in-length; begins = full_begins; only = full_only }
