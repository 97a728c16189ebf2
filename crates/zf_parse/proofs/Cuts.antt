-- A stream is cut in the block whose code is the first that is short.
use Rattle.std.proofs.Common.{◌≡◌, ◌⊎◌, inl, ⊎_elim, refl, sym, ap, subst, ◌∙◌, ℕ, ◌+◌, ◌-◌, ◌<◌, ◌≤◌, Bool, ltb-true, Option, None, Result, Ok, Err, List, ◌++◌, map, length, length-append, length-drop, arith, rules}
use Rattle.std.{specs.List.{flat_map}, specs.Result.{result_map_both}, proofs.lemmas.List.{length-map}}
use Rattle.zf_spec.{specs.Grid.{blocks}, specs.Stream.{fill_len, to_bits}, proofs.Bytes.{length-to_bits}}
use Rattle.zf_header.{specs.declared.header.Header.{Header}, specs.declared.header.HeaderFault.{HeaderFault}}
use Rattle.zf_header.{specs.HeaderBits.{header_bits}, specs.HeaderFaults.{header_fault}, proofs.Good.{good}}
use Rattle.zf_header.proofs.Found.{read_is_spelled, begins_within}
use Rattle.zf_parse.{specs.declared.fault.StreamFault.{StreamFault}, specs.Cuts.{IsFirstShort, IsFillShort}}
use Rattle.zf_parse.specs.Parsing.{coded_blocks, read_codes, values_of_blocks, fill_answer, header_of, code_bits, Said, said_behind, parse}
use Rattle.zf_parse.{proofs.Fill.{fill_short}, proofs.Joining.{read_codes-cut}}
use Rattle.zf_parse.proofs.Steps.{Coded, codes_in, blocks_in, cut_coded, header_or, by_coded}
use Rattle.zf_parse.proofs.Whole.{read_whole, codes_of_stand, read_short, read_front, none_of_short, short_of_none, begun_of_none}
use Rattle.zf_parse.specs.declared.fault.StreamFault.TheVariants as faults

-- ---- why bytes say nothing

-- only where a header is good is a block cut
pub cut_is_good : (bytes : List ℕ) (b : ℕ) → parse bytes ≡ Err (faults.Truncated b) → header_fault bytes ≡ None
unfolding parse
cut_is_good bytes b is = search rules

-- the fill is short
fill_cut : (h : Header) (used b : ℕ) (s : List Bool) → fill_answer h used s ≡ Err (faults.Truncated b) → (blocks h.shape ≡ b) × (length s < fill_len used)
fill_cut h used b s e = search (rules, ltb-true)

fill_err : (said : Said) (r : Result (Unit {0}) StreamFault) (e : StreamFault) → result_map_both (λ good. said) (λ f. f) r ≡ Err e → r ≡ Err e
fill_err said (Ok good) e is = absurd (cc)
fill_err said (Err f) e is = let same : f ≡ e = cc in ap (λ (g : StreamFault). Err g) same

-- it is the code of a block that is cut, or the fill
pub record CutFill (h : Header) (all b : ℕ) (r : Result Coded ℕ) : Type 0 where
  pub found : Coded
  pub read : r ≡ Ok found
  pub number : blocks h.shape ≡ b
  pub short : length found.1 < fill_len (all - length found.1)

cut_by : (h : Header) (all b : ℕ) (r : Result Coded ℕ) → by_coded h all r ≡ Err (faults.Truncated b) → (r ≡ Err b) ⊎ CutFill h all b r
cut_by h all b (Err k) e = let same : k ≡ b = cc in inl (ap (λ (j : ℕ). Err j) same)
cut_by h all b (Ok found) e = search (rules, fill_cut, fill_err)

-- ---- bytes with a good header

module _ (bytes : List ℕ) (no_fault : header_fault bytes ≡ None) where
  abbrev h : Header
  h = header_of bytes

  abbrev s : List Bool
  s = code_bits bytes

  answer : parse bytes ≡ by_coded (header_of bytes) (length (to_bits bytes)) (coded_blocks (header_of bytes) 0 (blocks (header_of bytes).shape) (code_bits bytes))
  unfolding parse
  answer = ap (λ (f : Option HeaderFault). header_or f (said_behind h (length (to_bits bytes)) s)) no_fault

  cut_at : (b : ℕ) → parse bytes ≡ Err (faults.Truncated b) → (coded_blocks h 0 (blocks h.shape) s ≡ Err b) ⊎ CutFill h (length (to_bits bytes)) b (coded_blocks h 0 (blocks h.shape) s)
  cut_at b is = cut_by h (length (to_bits bytes)) b (coded_blocks h 0 (blocks h.shape) s) (sym answer ∙ is)

  -- the bits up to those that are left behind the codes
  used_is : (codes : List (List Bool)) (left : List Bool) → s ≡ flat_map (λ c. c) codes ++ left → length (to_bits bytes) - length left ≡ length (header_bits h) + length (flat_map (λ c. c) codes)
  used_is codes left parts =
      let within = begins_within bytes h (read_is_spelled bytes (good bytes (sym no_fault))) in
      omega (arith, within, length-to_bits bytes, length-drop (length (header_bits h)) (to_bits bytes), ap length parts, length-append (flat_map (λ c. c) codes) left)

  -- a code is short
  module _ (b : ℕ) (lt : b < blocks (header_of bytes).shape) where
    pub cut_short : parse bytes ≡ Err (faults.Truncated b) → IsFirstShort (header_of bytes) b (code_bits bytes)
    cut_short is = ⊎_elim
        (λ read.
        let found = read_short h 0 (blocks h.shape) s b read in
        record {
          before = record { codes = found.codes; count = omega (arith, found.count); whole = found.whole; left = found.left; bits = found.bits };
          begun = begun_of_none h b found.left found.none;
          short = short_of_none h b found.left found.none;
        })
        (λ fill. absurd (omega (arith, fill.number, lt)))
        (cut_at b is)

    pub short_cut : IsFirstShort (header_of bytes) b (code_bits bytes) → parse bytes ≡ Err (faults.Truncated b)
    short_cut first =
        let it = first.before in
        let n = blocks h.shape in
        let front = read_front h 0 it.codes it.left it.whole in
        let read : coded_blocks h 0 b s ≡ Ok (front.blocks, it.left) = cc (it.bits, it.count, front.read) in
        let alone : read_codes h 0 b s ≡ Ok (map (λ c. c.1) front.blocks, it.left) = ap (λ (r : Result Coded ℕ). result_map_both blocks_in (λ k. k) r) read in
        let cut = cut_coded (coded_blocks h 0 n s) b (read_codes-cut h b n s it.left (map (λ c. c.1) front.blocks) lt alone (none_of_short h b it.left first.short)) in
        answer ∙ ap (by_coded h (length (to_bits bytes))) cut

  -- the fill alone is short
  pub cut_fill : parse bytes ≡ Err (faults.Truncated (blocks (header_of bytes).shape)) → IsFillShort (header_of bytes) (code_bits bytes)
  cut_fill is = ⊎_elim
      (λ read.
      let found = read_short h 0 (blocks h.shape) s (blocks h.shape) read in
      absurd (omega (arith, found.count, found.fewer)))
      (λ fill.
      let cs = codes_in fill.found in
      let whole = read_whole h 0 (blocks h.shape) s fill.found fill.read in
      record {
        before = record { codes = cs; count = length-map fill.found.0 (λ c. c.0) ∙ whole.count; whole = codes_of_stand h 0 fill.found.0 whole.stand; left = fill.found.1; bits = whole.bits };
        short = subst (λ n. length fill.found.1 < fill_len n) (used_is cs fill.found.1 whole.bits) fill.short;
      })
      (cut_at (blocks h.shape) is)

  pub fill_cuts : IsFillShort (header_of bytes) (code_bits bytes) → parse bytes ≡ Err (faults.Truncated (blocks (header_of bytes).shape))
  fill_cuts is =
      let it = is.before in
      let n = blocks h.shape in
      let all = length (to_bits bytes) in
      let front = read_front h 0 it.codes it.left it.whole in
      let read : coded_blocks h 0 n s ≡ Ok (front.blocks, it.left) = cc (it.bits, it.count, front.read) in
      let short : length it.left < fill_len (all - length it.left) = subst (λ k. length it.left < fill_len k) (sym (used_is it.codes it.left it.bits)) is.short in
      let found : Coded = (front.blocks, it.left) in
      let said : Said = record { header = h; codes = codes_in found; values = values_of_blocks h.shape (blocks_in found).0 } in
      answer ∙ ap (by_coded h all) read
      ∙ ap (λ (r : Result (Unit {0}) StreamFault). result_map_both (λ g. said) (λ e. e) r) (sym (fill_short h (all - length it.left) (fill_len (all - length it.left)) it.left refl short))

-- it is one of the blocks, or the fill behind them
pub cut_within : (bytes : List ℕ) (b : ℕ) → parse bytes ≡ Err (faults.Truncated b) → b ≤ blocks (header_of bytes).shape
cut_within bytes b is =
    let h = header_of bytes in
    ⊎_elim
    (λ read. let found = read_short h 0 (blocks h.shape) (code_bits bytes) b read in omega (arith, found.count, found.fewer))
    (λ fill. omega (arith, fill.number))
    (cut_at bytes (cut_is_good bytes b is) b is)
