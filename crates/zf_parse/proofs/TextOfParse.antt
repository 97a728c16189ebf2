-- Bits that go on with more bits say the same, where their codes are whole.
use Rattle.std.proofs.Common.{◌≡◌, refl, sym, ap, ◌∙◌, ℕ, zero, suc, ◌+◌, ◌-◌, ◌^◌, ◌≤◌, Bool, true, false, cond, ltb, le-ltb, ℤ, Option, Some, None, Result, Ok, Err, List, [], ◌∷◌, ◌++◌, length, take, drop, replicate, length-drop, length-append, arith, rules}
use Rattle.std.{proofs.lemmas.Bool.{ltb-false}, proofs.lemmas.List.{take-append-le, drop-append-le}}
use Rattle.std.{specs.Prelude.{is_none}, specs.Int.{Width}}
use Rattle.zf_spec.{specs.Numbers.{number}, specs.Grid.{blocks, extent_of}, specs.Lorenzo.{unlorenzo}}
use Rattle.zf_spec.{specs.Lift.{unlift}, specs.Planes.{code}, specs.ReadPlanes.{Begins, planes_in}}
use Rattle.zf_spec.specs.Codes.{count_bits, coefficients_of, existing_values, read_rev, read_prec}
use Rattle.zf_spec.specs.Stream.{to_bits}
use Rattle.zf_spec.proofs.Full.{length-planes_in, planes_in-length, full_begins, full_only}
use Rattle.zf_base.specs.Widths.{width_of}
use Rattle.zf_header.{specs.declared.header.Header.{Header}, specs.declared.header.Mode.{Mode}}
use Rattle.zf_header.specs.declared.header.Mode.TheVariants.{Reversible, Rate, Precision}
use Rattle.zf_header.{specs.declared.header.HeaderFault.{HeaderFault}, specs.HeaderFaults.{header_fault}}
use Rattle.zf_parse.{specs.declared.fault.StreamFault.{StreamFault}, specs.Raw.{raw_bytes}}
use Rattle.zf_parse.specs.Parsing.{read_code, read_codes, values_of_blocks, fill_answer, header_of, code_bits, longest_codes, restored_text}
use Rattle.zf_parse.proofs.Steps.{with_block, read_next, read_codes-suc, values_or_fault, codes_answer, header_or, values_said, values_said-is, blocks_text}

-- ---- one code

-- what begins bits, and is no longer, begins them with more behind
begins_more : (prefix s more : List Bool) → length prefix ≤ length s → Begins prefix s → Begins prefix (s ++ more)
begins_more [] s more le b = tt
begins_more (c ∷ prefix) [] more le b = absurd (omega arith)
begins_more (c ∷ prefix) (d ∷ s) more le b = (b.0, begins_more prefix s more (omega arith) b.1)

-- planes whose whole code is there
full_more : (p size : ℕ) (s more : List Bool) → length (code (planes_in p size s)) ≤ length s → planes_in p size (s ++ more) ≡ planes_in p size s
full_more p size s more le =
    let ps = planes_in p size s in
    let begins = begins_more (code ps) s more le (full_begins p size s) in
    sym (full_only size ps (s ++ more) (planes_in-length p size s) begins ∙ ap (λ k. planes_in k size (s ++ more)) (length-planes_in p size s))

-- an answer that may be nothing, and is something
cond_some : {X : Type 0} (t : Bool) (x y : X) → cond t None (Some x) ≡ Some y → (t ≡ false) × (x ≡ y)
cond_some true x y e = absurd cc
cond_some false x y e = (refl, cc)

-- the block of planes, and the length of their code
rev_of : Width → List ℕ → List (List Bool) → List ℤ × ℕ
rev_of w es ps = (existing_values es (unlorenzo w (length es) (coefficients_of w (length es) ps)), count_bits w + length (code ps))

-- the same of planes alone
prec_of : Width → List ℕ → List (List Bool) → List ℤ × ℕ
prec_of w es ps = (existing_values es (unlift w (length es) (coefficients_of w (length es) ps)), length (code ps))

pub read_code_more : (w : Width) (mode : Mode) (es : List ℕ) (s more : List Bool) (found : List ℤ × ℕ) → read_code w mode es s ≡ Some found
    → (read_code w mode es (s ++ more) ≡ Some found) × (found.1 ≤ length s)
unfolding read_rev rev_of read_prec prec_of
read_code_more w Reversible es s more found e =
    let n = count_bits w in
    let size = 4 ^ length es in
    let rest = drop n s in
    let ps = planes_in (number (take n s) + 1) size rest in
    let len = n + length (code ps) in
    let parts = cond_some (ltb (length s) len) (rev_of w es ps) found e in
    let within : len ≤ length s = ltb-false (length s) len parts.0 in
    let prefix : take n (s ++ more) ≡ take n s = take-append-le n s more (omega arith) in
    let behind : drop n (s ++ more) ≡ rest ++ more = drop-append-le n s more (omega arith) in
    let same = full_more (number (take n s) + 1) size rest more (omega (arith, within, length-drop n s)) in
    let longer : ltb (length (s ++ more)) len ≡ false = le-ltb (length (s ++ more)) len (omega (arith, within, length-append s more)) in
    let bits : len ≡ found.1 = ap (λ (c : List ℤ × ℕ). c.1) parts.1 in
    (cc, omega (arith, within, bits))
read_code_more w (Precision p) es s more found e =
    search (rules, cond_some, prec_of, ltb-false, full_more, le-ltb, length-append)
read_code_more w (Rate b) es s more found e =
    search (rules, cond_some, ltb-false, le-ltb, length-append, take-append-le)

-- ---- the codes of all blocks

-- what is read, with more bits behind
abbrev and_more : List Bool → List (List ℤ) × List Bool → List (List ℤ) × List Bool
and_more more found = (found.0, found.1 ++ more)

-- a block in front of blocks that are read alike with more bits behind
with_block_more : (more : List Bool) (block : List ℤ) (r q : Result (List (List ℤ) × List Bool) ℕ) (found : List (List ℤ) × List Bool)
    → ((rest : List (List ℤ) × List Bool) → r ≡ Ok rest → q ≡ Ok (and_more more rest)) → with_block block r ≡ Ok found → with_block block q ≡ Ok (and_more more found)
with_block_more more block (Err b) q found same e = absurd cc
with_block_more more block (Ok rest) q found same e = search rules

read_next_more : (b : ℕ) (s more : List Bool) (c d : Option (List ℤ × ℕ)) (behind : List Bool → Result (List (List ℤ) × List Bool) ℕ) (found : List (List ℤ) × List Bool)
    → ((code : List ℤ × ℕ) → c ≡ Some code → (d ≡ Some code) × (code.1 ≤ length s))
    → ((t : List Bool) (rest : List (List ℤ) × List Bool) → behind t ≡ Ok rest → behind (t ++ more) ≡ Ok (and_more more rest))
    → read_next b s c behind ≡ Ok found → read_next b (s ++ more) d behind ≡ Ok (and_more more found)
read_next_more b s more None d behind found same later e = absurd cc
read_next_more b s more (Some code) d behind found same later e =
    let here = same code refl in
    let rest = drop code.1 s in
    cc (here.0, drop-append-le code.1 s more here.1, with_block_more more code.0 (behind rest) (behind (rest ++ more)) found (later rest) e)

pub read_codes_more : (h : Header) (b n : ℕ) (s more : List Bool) (found : List (List ℤ) × List Bool) → read_codes h b n s ≡ Ok found
    → read_codes h b n (s ++ more) ≡ Ok (found.0, found.1 ++ more)
read_codes_more h b zero s more found e = cc
read_codes_more h b (suc n) s more found e =
    let w = width_of h.ty in
    let es = extent_of h.shape b in
    read_codes-suc h b n (s ++ more)
    ∙ read_next_more b s more (read_code w h.mode es s) (read_code w h.mode es (s ++ more)) (read_codes h (suc b) n) found
    (λ code is. read_code_more w h.mode es s more code is) (λ t rest is. read_codes_more h (suc b) n t more rest is) (sym (read_codes-suc h b n s) ∙ e)

-- ---- the parts of a good answer

pub header_good : {T : Type 0} (f : Option HeaderFault) (rest : Result T StreamFault) (good : T) → header_or f rest ≡ Ok good → (f ≡ None) × (rest ≡ Ok good)
header_good None rest good e = (refl, e)
header_good (Some f) rest good e = absurd cc

values_good : (found values : List ℤ) (r : Result (Unit {0}) StreamFault) → values_or_fault found r ≡ Ok values → found ≡ values
values_good found values (Ok good) e = cc
values_good found values (Err f) e = absurd cc

pub codes_good : (h : Header) (all : ℕ) (r : Result (List (List ℤ) × List Bool) ℕ) (values : List ℤ) → codes_answer h all r ≡ Ok values
    → (found : List (List ℤ) × List Bool) × (r ≡ Ok found) × (values_of_blocks h.shape found.0 ≡ values)
codes_good h all (Err b) values e = absurd cc
codes_good h all (Ok found) values e = (found, refl, values_good (values_of_blocks h.shape found.0) values (fill_answer h (all - length found.1) found.1) e)

-- what is restored of a stream that is good is the raw bytes of its values
pub text_of_parse : (bytes : List ℕ) (values : List ℤ) → values_said bytes ≡ Ok values → restored_text bytes ≡ raw_bytes (header_of bytes) values
unfolding restored_text
text_of_parse bytes values e =
    let h = header_of bytes in
    let all = length (to_bits bytes) in
    let r = read_codes h 0 (blocks h.shape) (code_bits bytes) in
    let zeros = replicate (longest_codes h) false in
    let good = header_good (header_fault bytes) (codes_answer h all r) values (sym (values_said-is bytes) ∙ e) in
    let read = codes_good h all r values good.1 in
    let more = read_codes_more h 0 (blocks h.shape) (code_bits bytes) zeros read.0 read.1 in
    ap (λ (f : Option HeaderFault). cond (is_none f) (blocks_text h (read_codes h 0 (blocks h.shape) (code_bits bytes ++ zeros))) []) good.0
    ∙ ap (blocks_text h) more
    ∙ ap (raw_bytes h) read.2
