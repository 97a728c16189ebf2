-- What a stream of a fixed rate says: each code has as many bits, so it is cut by places alone.
use Rattle.std.proofs.Common.{◌≡◌, ◌≢◌, refl, sym, ap, ◌∙◌, ℕ, zero, suc, ◌+◌, ◌-◌, ◌*◌, ◌/◌, ◌<◌, ◌≤◌, Bool, true, false, cond, ltb, ℤ, Option, Some, None, Ok, Err, List, [], ◌++◌, map, length, take, drop, length-append, length-drop, arith, suc-mul, rules}
use Rattle.std.{proofs.lemmas.Bool.{ltb-true, ltb-false}, proofs.Math.Seq.{take-add}}
use Rattle.std.proofs.lemmas.List.{take-append-drop, length-take-le, take_at}
use Rattle.std.proofs.Math.Nat.{div-eq-sub-div, div-eq_of_lt, mul-le-mul_right}
use Rattle.zf_spec.{specs.Grid.{upto, blocks, extent_of}, specs.Codes.{read_rate}, specs.Numbers.{number}}
use Rattle.zf_spec.specs.Stream.{fill_len, to_bits}
use Rattle.zf_base.specs.Widths.{width_of}
use Rattle.zf_header.{specs.declared.header.Header.{Header}, specs.declared.header.Mode.TheVariants.{Rate}}
use Rattle.zf_parse.{specs.declared.fault.StreamFault.{StreamFault}, specs.ReadStreams.{BeginsWithHeader}}
use Rattle.zf_parse.specs.Parsing.{read_code, read_codes, fill_answer, parse}
use Rattle.zf_parse.proofs.Steps.{read_codes-suc, values_or_fault, codes_answer, values_said, values_err}
use Rattle.zf_parse.{proofs.Codes.{joined-more}, proofs.Fill.{fill_short, fill_one, fill_more}}
use Rattle.zf_parse.{proofs.Parsed.{parse_is}, proofs.ParseOfStream.{end_to_end, ReadsBack, read_codes-codes}}
use Rattle.zf_parse.specs.declared.fault.StreamFault.TheVariants as faults

-- the code of block b, where each has so many bits
abbrev pub code_cut : ℕ → List Bool → ℕ → List Bool
code_cut budget s b = take budget (drop (b * budget) s)

-- the codes end to end are the first bits
pub end_to_end-cut : (budget : ℕ) (s : List Bool) (n : ℕ) → end_to_end (code_cut budget s) (upto n) ≡ take (n * budget) s
end_to_end-cut budget s zero = let none : 0 * budget ≡ 0 = omega arith in sym (ap (λ k. take k s) none)
end_to_end-cut budget s (suc n) =
    let next : suc n ≡ n + 1 = omega arith in
    let sum : n * budget + budget ≡ suc n * budget = omega (arith, suc-mul n budget) in
    ap (λ k. end_to_end (code_cut budget s) (upto k)) next ∙ sym (joined-more (code_cut budget s) [] n)
    ∙ ap (λ (bs : List Bool). bs ++ code_cut budget s n) (end_to_end-cut budget s n)
    ∙ sym (take-add (n * budget) budget s) ∙ ap (λ k. take k s) sum

-- a code before the end is whole
pub length-cut : (budget n b : ℕ) (s : List Bool) → n * budget ≤ length s → b < n → length (code_cut budget s b) ≡ budget
length-cut budget n b s long below = length-take-le budget (drop (b * budget) s) (omega (arith, length-drop (b * budget) s, suc-mul b budget, mul-le-mul_right budget below))

-- a code of so many bits in front is read
pub read_code-rate : (h : Header) (budget : ℕ) (es : List ℕ) (code more : List Bool) → h.mode ≡ Rate budget → length code ≡ budget
    → read_code (width_of h.ty) h.mode es (code ++ more) ≡ Some (read_rate (width_of h.ty) es code, length code)
read_code-rate h budget es code more is long =
    grind (arith, length-append code more, take_at code more budget long)

-- all codes are there
pub read_codes-rate : (h : Header) (budget : ℕ) (s : List Bool) → h.mode ≡ Rate budget → let n = blocks h.shape in n * budget ≤ length s
    → read_codes h 0 n s ≡ Ok (map (λ b. read_rate (width_of h.ty) (extent_of h.shape b) (code_cut budget s b)) (upto n), drop (n * budget) s)
read_codes-rate h budget s is long =
    let n = blocks h.shape in
    let code = code_cut budget s in
    let back = λ (b : ℕ). read_rate (width_of h.ty) (extent_of h.shape b) (code b) in
    let rest = drop (n * budget) s in
    let parts : s ≡ end_to_end code (upto n) ++ rest = sym (ap (λ (bs : List Bool). bs ++ rest) (end_to_end-cut budget s n) ∙ take-append-drop (n * budget) s) in
    let each : (b : ℕ) → 0 ≤ b → b < 0 + n → ReadsBack h code back b =
    λ b low high more. read_code-rate h budget (extent_of h.shape b) (code b) more is (length-cut budget n b s long (omega (arith, high))) in
    ap (read_codes h 0 n) parts ∙ read_codes-codes h code back 0 n rest each

-- the first code that is cut
pub read_codes-cut : (h : Header) (budget b n : ℕ) (s : List Bool) → h.mode ≡ Rate budget → 1 ≤ budget → length s < n * budget → read_codes h b n s ≡ Err (b + length s / budget)
read_codes-cut h budget b zero s is some short = absurd (omega arith)
read_codes-cut h budget b (suc n) s is some short = by (ltb (length s) budget) refl (read_codes-cut h budget (suc b) n (drop budget s) is some)
  where
    code : Bool → Option (List ℤ × ℕ)
    code t = cond t None (Some (read_rate (width_of h.ty) (extent_of h.shape b) (take budget s), budget))

    read : (t : Bool) → ltb (length s) budget ≡ t → read_code (width_of h.ty) h.mode (extent_of h.shape b) s ≡ code t
    read t e = ap (λ m. read_code (width_of h.ty) m (extent_of h.shape b) s) is ∙ ap code e

    by : (t : Bool) → ltb (length s) budget ≡ t → (length (drop budget s) < n * budget → read_codes h (suc b) n (drop budget s) ≡ Err (suc b + length (drop budget s) / budget)) → read_codes h b (suc n) s ≡ Err (b + length s / budget)
    by true e next = search (rules, div-eq_of_lt, ltb-true, read_codes-suc)
    by false e next = search (rules, ltb-false, length-drop, suc-mul, div-eq-sub-div, read_codes-suc)

-- ---- why a stream is none

-- the bits behind the header, and those behind the codes
abbrev pub behind_codes : Header → ℕ → ℕ → List ℕ → List Bool
behind_codes h len budget bytes = drop (blocks h.shape * budget) (drop len (to_bits bytes))

pub parse_err : (bytes : List ℕ) (e : StreamFault) → values_said bytes ≡ Err e → parse bytes ≡ Err e
unfolding values_said
parse_err bytes e is = values_err (parse bytes) e is

module _ (bytes : List ℕ) (h : Header) (len budget : ℕ) (begun : BeginsWithHeader bytes h len) (is : h.mode ≡ Rate budget) where
  -- the code of a block ends too early
  pub parse_cut : 1 ≤ budget → length (drop len (to_bits bytes)) < blocks h.shape * budget → parse bytes ≡ Err (faults.Truncated (length (drop len (to_bits bytes)) / budget))
  parse_cut some short =
      let s = drop len (to_bits bytes) in
      let first : 0 + length s / budget ≡ length s / budget = omega arith in
      parse_err bytes (faults.Truncated (length s / budget)) (cc (parse_is bytes h len begun, read_codes-cut h budget 0 (blocks h.shape) s is some short))

  -- the codes are there, and the fill has a fault
  parse_fill : (e : StreamFault) → blocks h.shape * budget ≤ length (drop len (to_bits bytes))
      → Err e ≡ fill_answer h (length (to_bits bytes) - length (behind_codes h len budget bytes)) (behind_codes h len budget bytes) → parse bytes ≡ Err e
  parse_fill e long fault =
      let read = read_codes-rate h budget (drop len (to_bits bytes)) is long in
      parse_err bytes e (parse_is bytes h len begun ∙ ap (codes_answer h (length (to_bits bytes))) read ∙ ap (values_or_fault _) (sym fault))

  used_is : len ≤ length (to_bits bytes) → blocks h.shape * budget ≤ length (drop len (to_bits bytes))
      → length (to_bits bytes) - length (behind_codes h len budget bytes) ≡ len + blocks h.shape * budget
  used_is within long =
      omega (arith, length-drop len (to_bits bytes), length-drop (blocks h.shape * budget) (drop len (to_bits bytes)))

  module _ (within : len ≤ length (to_bits bytes)) (long : blocks h.shape * budget ≤ length (drop len (to_bits bytes))) where
    pub parse_fill_short : length (behind_codes h len budget bytes) < fill_len (len + blocks h.shape * budget) → parse bytes ≡ Err (faults.Truncated (blocks h.shape))
    parse_fill_short short = search (rules, parse_fill, fill_short, used_is)

    pub parse_pad : fill_len (len + blocks h.shape * budget) ≤ length (behind_codes h len budget bytes)
        → number (take (fill_len (len + blocks h.shape * budget)) (behind_codes h len budget bytes)) ≢ 0 → parse bytes ≡ Err faults.Pad
    parse_pad enough one = search (rules, parse_fill, fill_one, used_is)

    pub parse_trailing : fill_len (len + blocks h.shape * budget) < length (behind_codes h len budget bytes)
        → number (take (fill_len (len + blocks h.shape * budget)) (behind_codes h len budget bytes)) ≡ 0 → parse bytes ≡ Err faults.Trailing
    parse_trailing more none = search (rules, parse_fill, fill_more, used_is)
