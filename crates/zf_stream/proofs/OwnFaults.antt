-- What is said of the bytes of a stream is never a fault of a device, nor one of raw values; what is said of codes is none of a header either.
use Rattle.std.proofs.Common.{rules, ◌≡◌, ℕ, ℤ, Bool, true, false, List, Option, Result, Ok, Err, ◌⊎◌, subst, ⊎_elim}
use Rattle.std.specs.Prelude.{IfErr}
use Rattle.zf_header.{specs.declared.header.Header.{Header}, specs.declared.header.HeaderFault.{HeaderFault}}
use Rattle.zf_dev.specs.declared.source.Source.{Ghosts as Source}
use Rattle.zf_parse.{specs.declared.fault.StreamFault.{StreamFault}, specs.Parsing.{restore_answer}}
use Rattle.zf_parse.proofs.Steps.{values_said, values_said-is, values_behind, header_or, codes_answer, without_values, restore_answer-values}
use Rattle.zf_parse.specs.declared.fault.StreamFault.TheVariants as faults
use Rattle.zf_stream.{specs.Outcomes.{IsBeforeWriting}, specs.Windows.{Window}, specs.Restoring.{Refuses}}

-- the faults of devices, and those of raw values
unfoldable pub is_foreign : StreamFault → Bool
is_foreign faults.Read = true
is_foreign faults.Write = true
is_foreign (faults.Header f) = false
is_foreign (faults.RawShort n) = true
is_foreign faults.RawLong = true
is_foreign (faults.Truncated n) = false
is_foreign faults.Pad = false
is_foreign faults.Trailing = false
is_foreign faults.Memory = false

-- the answer is such a fault
unfoldable pub blames_foreign : {T : Type 0} → Result T StreamFault → Bool
blames_foreign (Ok x) = false
blames_foreign (Err e) = is_foreign e

own_codes : (h : Header) (all : ℕ) (found : Result (List (List ℤ) × List Bool) ℕ) → blames_foreign (codes_answer h all found) ≡ false
unfolding blames_foreign is_foreign
own_codes h all _ = search rules

own_header : (fault : Option HeaderFault) (rest : Result (List ℤ) StreamFault) → blames_foreign rest ≡ false → blames_foreign (header_or fault rest) ≡ false
unfolding blames_foreign is_foreign
own_header _ rest own = search rules

own_text : (answer : Result (List ℤ) StreamFault) → blames_foreign answer ≡ false → blames_foreign (without_values answer) ≡ false
unfolding blames_foreign is_foreign
own_text _ own = search rules

-- the answer for the bytes of a stream is none
pub own_answer : (bytes : List ℕ) → blames_foreign (restore_answer bytes) ≡ false
own_answer bytes = search (rules, own_header, codes_answer, own_codes, restore_answer-values, own_text, values_said, values_said-is)

-- ---- what is said of codes is none of a header, nor out of memory

abbrev IsOfCodes : StreamFault → Type 0
IsOfCodes (faults.Truncated n) = Unit {0}
IsOfCodes faults.Pad = Unit {0}
IsOfCodes faults.Trailing = Unit {0}
IsOfCodes e = ⊥

of_codes : (h : Header) (all : ℕ) (found : Result (List (List ℤ) × List Bool) ℕ) → IfErr (codes_answer h all found) IsOfCodes
of_codes h all _ = search rules

not_before : (e : StreamFault) → IsOfCodes e → ¬ IsBeforeWriting e
not_before (faults.Truncated n) of before = before
not_before faults.Pad of before = before
not_before faults.Trailing of before = before
not_before e of before = of

device_not_before : (e : StreamFault) → (e ≡ faults.Read) ⊎ (e ≡ faults.Write) → ¬ IsBeforeWriting e
device_not_before e device before =
    ⊎_elim (λ read. subst IsBeforeWriting read before) (λ write. subst IsBeforeWriting write before) device

pub refused_later : {A : Type 0} {S : Source A} (h : Header) (src now : A) (w : Window) (e : StreamFault) → Refuses h S src now w e → ¬ IsBeforeWriting e
refused_later {A} {S} h src now w e refuses = search (rules, not_before, values_behind, of_codes, device_not_before)
