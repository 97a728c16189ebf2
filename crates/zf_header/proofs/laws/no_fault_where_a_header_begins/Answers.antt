use Rattle.std.proofs.Common.{sym}
use Rattle.zf_header.{proofs.Good.{good}, proofs.Found.{read_is_spelled, read_is_header}}
use Rattle.zf_header.proofs.Spelled.{spelled_is_read, spelled_is_good}
use Rattle.zf_header.proofs.laws.no_fault_where_a_header_begins.Goals as goal

pub returns : goal.returns
returns c = record {
  begins = λ bytes none. read_is_spelled bytes (good bytes (sym none));
  header = λ bytes none. read_is_header bytes (good bytes (sym none));
  no_fault = λ bytes h is begins. sym (spelled_is_good bytes h is begins);
  only = λ bytes h is begins. spelled_is_read bytes h is begins;
}
