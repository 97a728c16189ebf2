-- What the bits of bytes say, for the one who has their header.
use Rattle.std.proofs.Common.{◌≡◌, ℕ, ◌≤◌, Bool, ℤ, List, ◌++◌, length, take, drop, Option, Some, None, Result, Ok, Err, sym, ap, ◌∙◌, subst, length-append, take-take, arith}
use Rattle.std.{proofs.lemmas.List.{take-append-le}, proofs.lemmas.Grind.{flat_map-append}}
use Rattle.zf_spec.{specs.Grid.{blocks}, specs.Numbers.{field}, specs.Stream.{to_bits}}
use Rattle.zf_spec.proofs.Bytes.{length-to_bits}
use Rattle.zf_header.{specs.declared.header.Header.{Header}, specs.HeaderFaults.{header_fault}}
use Rattle.zf_header.{specs.HeaderBits.{header_bits, BeginsWith, IsHeader}, proofs.First.{header_fault-first}}
use Rattle.zf_header.{specs.declared.header.HeaderFault.{HeaderFault}, proofs.Good.{good}}
use Rattle.zf_header.proofs.Found.{read_is_spelled, read_is_header}
use Rattle.zf_header.proofs.Spelled.{spelled_is_read, spelled_is_good}
use Rattle.zf_parse.{specs.declared.fault.StreamFault.{StreamFault}, specs.ReadStreams.{BeginsWithHeader}}
use Rattle.zf_parse.specs.Parsing.{header_of, code_bits, read_codes, said_behind, parse, restore_answer}
use Rattle.zf_parse.proofs.Steps.{values_said, values_said-is, header_or, codes_answer, without_values, restore_answer-values}
use Rattle.zf_parse.specs.declared.fault.StreamFault.TheVariants as faults

-- the answer of what stands behind the header
answer_of : Option HeaderFault → Header → List ℕ → List Bool → Result (List ℤ) StreamFault
answer_of fault h bytes s = header_or fault (codes_answer h (length (to_bits bytes)) (read_codes h 0 (blocks h.shape) s))

pub parse_is : (bytes : List ℕ) (h : Header) (len : ℕ) → BeginsWithHeader bytes h len
    → values_said bytes ≡ codes_answer h (length (to_bits bytes)) (read_codes h 0 (blocks h.shape) (drop len (to_bits bytes)))
unfolding answer_of
parse_is bytes h len begun = cc (values_said-is bytes)

-- and what is said
pub parse_behind : (bytes : List ℕ) (h : Header) (len : ℕ) → BeginsWithHeader bytes h len → parse bytes ≡ said_behind h (length (to_bits bytes)) (drop len (to_bits bytes))
unfolding parse
parse_behind bytes h len begun = cc

-- bytes behind a header change nothing of it
pub begun_more : (prefix more : List ℕ) (h : Header) (len : ℕ) → BeginsWithHeader prefix h len → BeginsWithHeader (prefix ++ more) h len
begun_more prefix more h len begun =
    let g = good prefix (sym begun.good) in
    let n = length (header_bits h) in
    let begins : BeginsWith prefix h = subst (BeginsWith prefix) (sym begun.header) (read_is_spelled prefix g) in
    let is : IsHeader h = subst IsHeader (sym begun.header) (read_is_header prefix g) in
    let within : n ≤ length (to_bits prefix) = omega (arith, length-to_bits prefix, begun.within, begun.bits_is) in
    let bits : take n (to_bits (prefix ++ more)) ≡ header_bits h =
    ap (take n) (flat_map-append (field 8) prefix more) ∙ take-append-le n (to_bits prefix) (to_bits more) within ∙ begins.bits in
    let more_begins : BeginsWith (prefix ++ more) h = record { bits = bits } in
    record {
      good = sym (spelled_is_good (prefix ++ more) h is more_begins);
      header = sym (spelled_is_read (prefix ++ more) h is more_begins);
      bits_is = begun.bits_is;
      within = omega (arith, begun.within, length-append prefix more);
    }

-- the first bytes tell the fault of the header, where the longest header lies in them
pub fault_first : (n : ℕ) (all : List ℕ) → 19 ≤ n → header_fault (take n all) ≡ header_fault all
fault_first n all within = sym (header_fault-first (take n all)) ∙ ap header_fault (take-take 19 n all within) ∙ header_fault-first all

-- and where it has a fault, the stream has it
pub parse_fault : (n : ℕ) (all prefix : List ℕ) (f : HeaderFault) → 19 ≤ n → prefix ≡ take n all → header_fault prefix ≡ Some f → restore_answer all ≡ Err (faults.Header f)
unfolding answer_of
parse_fault n all prefix f within is fault =
    let known : header_fault all ≡ Some f = sym (fault_first n all within) ∙ ap header_fault (sym is) ∙ fault in
    restore_answer-values all ∙ ap without_values (values_said-is all) ∙ ap (λ o. without_values (answer_of o (header_of all) all (code_bits all))) known

-- where an input is a good stream, its header is one
pub good_header : (bytes : List ℕ) → restore_answer bytes ≡ Ok tt → header_fault bytes ≡ None
good_header bytes good = grind (arith, restore_answer-values bytes, values_said-is bytes, good)
