use Rattle.zf_header.proofs.First.{header_fault-first, header_in-first}
use Rattle.zf_header.proofs.laws.first_bytes_decide.Goals as goal

pub returns : goal.returns
returns c = record { fault = header_fault-first; header = header_in-first }
