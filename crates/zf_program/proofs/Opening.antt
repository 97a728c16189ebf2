-- What a file is opened as, by what is known of its header and of the stream.
use Rattle.std.proofs.Common.{◌≡◌, ℕ, List, length, Some, None, Result, Ok, Err, ap, sym, ◌∙◌, rules}
use Rattle.zf_spec.specs.Stream.{to_bits, mode_number}
use Rattle.zf_header.{specs.declared.header.Header.{Header}, specs.declared.header.Mode.{Mode}}
use Rattle.zf_header.{specs.declared.header.Mode.TheVariants.{Rate}, specs.HeaderBits.{IsRate, coding}}
use Rattle.zf_header.{specs.declared.header.HeaderFault.{HeaderFault}, specs.HeaderFaults.{header_fault}}
use Rattle.zf_parse.{specs.declared.fault.StreamFault.{StreamFault}, proofs.Steps.{header_or}}
use Rattle.zf_parse.{specs.Parsing.{Said, header_of, code_bits, said_behind, parse}, proofs.Parts.{parts_of}}
use Rattle.zf_program.specs.declared.status.Status.TheVariants as statuses
use Rattle.zf_program.specs.Opened.{said_or_status, said_at_rate, array_behind, array_in, stream_in}

-- the file has no good header
pub array_in-header : (bytes : List ℕ) (f : HeaderFault) → header_fault bytes ≡ Some f → array_in bytes ≡ Err (statuses.Header f)
unfolding array_in
array_in-header bytes f is = ap (λ fault. array_behind fault (said_at_rate (header_of bytes).mode (parse bytes))) is

pub stream_in-header : (bytes : List ℕ) (f : HeaderFault) → header_fault bytes ≡ Some f → stream_in bytes ≡ Err (statuses.Header f)
unfolding stream_in parse
stream_in-header bytes f is = ap (λ fault. said_or_status (header_or fault (said_behind (header_of bytes) (length (to_bits bytes)) (code_bits bytes)))) is

array_in-good : (bytes : List ℕ) (h : Header) → header_fault bytes ≡ None → h ≡ header_of bytes → array_in bytes ≡ said_at_rate h.mode (parse bytes)
unfolding array_in
array_in-good bytes h good is =
    ap (λ fault. array_behind fault (said_at_rate (header_of bytes).mode (parse bytes))) good ∙ ap (λ g. said_at_rate g.mode (parse bytes)) (sym is)

at_rate : (m : Mode) (answer : Result Said StreamFault) → IsRate m → said_at_rate m answer ≡ said_or_status answer
at_rate _ answer rate = search rules

-- it has a fixed rate
pub array_in-rate : (bytes : List ℕ) (h : Header) (answer : Result Said StreamFault) → header_fault bytes ≡ None → h ≡ header_of bytes → IsRate h.mode → parse bytes ≡ answer → array_in bytes ≡ said_or_status answer
array_in-rate bytes h answer good header rate is = array_in-good bytes h good header ∙ (at_rate h.mode (parse bytes) rate ∙ ap said_or_status is)

no_rate : (m : Mode) (answer : Result Said StreamFault) → ((b : ℕ) → m ≡ Rate b → ⊥) → said_at_rate m answer ≡ Err (statuses.NotRate (mode_number (coding m)))
no_rate _ answer not = search rules

-- it is of another mode
pub array_in-no_rate : (bytes : List ℕ) (h : Header) (number : ℕ) → header_fault bytes ≡ None → h ≡ header_of bytes → ((b : ℕ) → h.mode ≡ Rate b → ⊥) → number ≡ mode_number (coding h.mode) → array_in bytes ≡ Err (statuses.NotRate number)
array_in-no_rate bytes h number good is not number_is = array_in-good bytes h good is ∙ (no_rate h.mode (parse bytes) not ∙ ap (λ n. Err (statuses.NotRate n)) (sym number_is))

-- what a stream says has the header that it begins with
pub header_said : (bytes : List ℕ) (said : Said) → parse bytes ≡ Ok said → said.header ≡ header_of bytes
header_said bytes said is = sym (ap (λ (t : Said). t.header) (parts_of bytes said is).is)

-- it is a stream
pub stream_in-said : (bytes : List ℕ) (answer : Result Said StreamFault) → parse bytes ≡ answer → stream_in bytes ≡ said_or_status answer
unfolding stream_in
stream_in-said bytes answer is = ap said_or_status is
