-- What the fields say is spelled so, and what is spelled so is read.
use Rattle.std.proofs.Common.{◌≡◌, ℕ, List, length, Result, Ok, Err, None, sym, ap, subst, ◌∙◌, ◌*◌, ◌≤◌, arith, rules}
use Rattle.std.specs.Result.{IfOk, result_err}
use Rattle.zf_spec.specs.Stream.{to_bits}
use Rattle.zf_header.{specs.declared.header.Header.{Header}, specs.declared.header.HeaderFault.{HeaderFault}}
use Rattle.zf_header.{specs.HeaderBits.{IsHeader, BeginsWith, header_bits}, specs.HeaderFields.{header_in}}
use Rattle.zf_header.{specs.HeaderFaults.{header_fault}, proofs.Good.{good}}
use Rattle.zf_header.proofs.Found.{read_is_spelled, read_is_header, begins_within}
use Rattle.zf_header.proofs.Spelled.{spelled_is_read, spelled_is_good}
use Rattle.zf_header.proofs.reading.read.Goals as goal

-- what a result without a fault says
says : (bytes : List ℕ) (r : Result (Header × ℕ) HeaderFault) → result_err r ≡ header_fault bytes → IfOk r (λ f. f.0 ≡ header_in (to_bits bytes)) → IfOk r (λ f. f.1 ≡ length (header_bits f.0))
    → IfOk r (λ f. BeginsWith bytes f.0) × IfOk r (λ f. f.1 ≤ 8 * length bytes) × IfOk r (λ f. IsHeader f.0)
says bytes (Ok f) fault header len =
    let begins = subst (BeginsWith bytes) (sym header) (read_is_spelled bytes (good bytes fault)) in
    (begins, omega (arith, len, begins_within bytes f.0 begins), subst IsHeader (sym header) (read_is_header bytes (good bytes fault)))
says bytes (Err e) fault header len = (tt, tt, tt)

only : (bytes : List ℕ) (r : Result (Header × ℕ) HeaderFault) (h : Header) → result_err r ≡ header_fault bytes → IfOk r (λ f. f.0 ≡ header_in (to_bits bytes)) → IfOk r (λ f. f.1 ≡ length (header_bits f.0)) → (None ≡ header_fault bytes) × (header_in (to_bits bytes) ≡ h) → r ≡ Ok (h, length (header_bits h))
only bytes (Ok f) h fault header len read = let e : f.0 ≡ h = header ∙ read.1 in ap (λ n. Ok (f.0, n)) len ∙ ap (λ g. Ok (g, length (header_bits g))) e
only bytes (Err e) h fault header len read = absurd cc

pub returns : goal.returns
returns c =
    let say = says c.args.bytes.now c.fields.result c.fields.ensures.fault c.fields.ensures.header c.fields.ensures.len in
    let one = λ (h : Header) (is : IsHeader h) (begins : BeginsWith c.args.bytes.now h). only c.args.bytes.now c.fields.result h c.fields.ensures.fault c.fields.ensures.header c.fields.ensures.len (spelled_is_good c.args.bytes.now h is begins, spelled_is_read c.args.bytes.now h is begins) in
    search rules
