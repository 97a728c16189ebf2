-- Codes that are read where they begin, and what a stream of them says.
use Rattle.std.proofs.Common.{◌≡◌, refl, sym, ap, subst, ◌∙◌, ⊎_elim, ℕ, zero, suc, ◌+◌, ◌-◌, ◌%◌, ◌^◌, ◌<◌, ◌≤◌, Bool, ℤ, Option, Some, None, Result, Ok, Err, List, [], ◌∷◌, ◌++◌, map, length, get_or, take, drop, length-append, length-drop, arith, rules}
use Rattle.std.{proofs.lemmas.Bool.{cases_lt}, specs.Result.{result_map_both}, proofs.lemmas.Simd.{map-map}}
use Rattle.std.proofs.lemmas.List.{drop-drop, length-take, length-take-le}
use Rattle.zf_spec.{specs.Grid.{count_from, upto, grid, blocks, extent_of}, specs.Stream.{to_bits}}
use Rattle.zf_spec.proofs.Counting.{from_places}
use Rattle.zf_base.{specs.Widths.{width_of}, specs.Positions.{with_unused}, proofs.Sizes.{grid_of_shape}}
use Rattle.zf_bits.specs.Reader.{Reader, rest}
use Rattle.zf_header.{specs.declared.header.Header.{Header}, proofs.Good.{good}}
use Rattle.zf_header.specs.HeaderBits.{IsHeader, BeginsWith, header_bits}
use Rattle.zf_header.proofs.Found.{read_is_spelled, read_is_header, begins_within}
use Rattle.zf_parse.{specs.declared.fault.StreamFault.{StreamFault}, proofs.Parsed.{parse_behind}}
use Rattle.zf_parse.specs.Parsing.{read_code, coded_blocks, read_codes, Said, said_behind, parse, values_of_blocks, fill_answer, longest_code}
use Rattle.zf_parse.proofs.Steps.{Coded, blocks_in, codes_answer, with_coded, next_coded, by_coded, behind_err}
use Rattle.zf_parse.{specs.ReadStreams.{BeginsWithHeader, IsFault}, proofs.Joining.{read_codes-cut}}
use Rattle.zf_parse.{proofs.Fill.{fill_place}, proofs.Excerpts.{cut_told, fill_cut}}
use Rattle.zf_parse.specs.declared.fault.StreamFault.TheVariants as faults
use Rattle.zf_index.{specs.declared.fault.IndexFault.{IndexFault}, specs.Walks.{IsWalked, HasFault, HasCode}}
use Rattle.zf_index.specs.Spans.{Index, len_at, place, code_in, codes_in}
use Rattle.zf_index.specs.Files.{HasHeader, found, block_read, len_read, AreRead, blocks_found, IsIndexOf, stream_fault}
use Rattle.zf_index.proofs.Places.{ends_within, place-push, len-push, len-last}

-- what was read is its block and its length
pub read_parts : (o : Option (List ℤ × ℕ)) (n : ℕ) → len_read o ≡ Some n → o ≡ Some (block_read o, n)
read_parts None n e = absurd cc
read_parts (Some code) n e = let same : code.1 ≡ n = cc in ap (λ k. Some (code.0, k)) same

module _ (h : Header) (i : Index) (s : List Bool) (read : AreRead h i s) where
  -- what is left behind a code
  left : (b : ℕ) → drop (len_at i b) (drop (place i b) s) ≡ drop (place i (suc b)) s
  left b = drop-drop (len_at i b) (place i b) s

  here : (b : ℕ) → b < length i.lens → found h i s b ≡ Some (block_read (found h i s b), len_at i b)
  here b lt = read_parts (found h i s b) (len_at i b) (read b lt)

  -- a code and its block
  abbrev coded : ℕ → List Bool × List ℤ
  coded k = (code_in i s k, block_read (found h i s k))

  -- those from block b on
  coded_from : (b m : ℕ) → b + m ≤ length i.lens → coded_blocks h b m (drop (place i b) s) ≡ Ok (map coded (count_from b m), drop (place i (b + m)) s)
  coded_from b zero le = let same : b ≡ b + 0 = omega arith in ap (λ k. Ok ([], drop (place i k) s)) same
  coded_from b (suc m) le = by (coded_from (suc b) m (omega (arith, le)))
    where
      behind : List Bool → Result Coded ℕ
      behind = coded_blocks h (suc b) m

      by : coded_blocks h (suc b) m (drop (place i (suc b)) s) ≡ Ok (map coded (count_from (suc b) m), drop (place i (suc b + m)) s)
          → coded_blocks h b (suc m) (drop (place i b) s) ≡ Ok (map coded (count_from b (suc m)), drop (place i (b + suc m)) s)
      by rest =
          let count : suc b + m ≡ b + suc m = omega arith in
          ap (λ (c : Option (List ℤ × ℕ)). next_coded b (drop (place i b) s) c behind) (here b (omega (arith, le)))
          ∙ ap (λ (t : List Bool). with_coded (code_in i s b) (block_read (found h i s b)) (behind t)) (left b)
          ∙ ap (with_coded (code_in i s b) (block_read (found h i s b))) rest
          ∙ ap (λ k. Ok (coded b ∷ map coded (count_from (suc b) m), drop (place i k) s)) count

  coded_read : (n : ℕ) → n ≤ length i.lens → coded_blocks h 0 n (drop i.start s) ≡ Ok (map coded (upto n), drop (place i n) s)
  coded_read n le = coded_from 0 n (omega (arith, le)) ∙ (let same : 0 + n ≡ n = omega arith in ap (λ k. Ok (map coded (upto n), drop (place i k) s)) same)

  pub blocks_read : (n : ℕ) → n ≤ length i.lens → read_codes h 0 n (drop i.start s) ≡ Ok (map (λ k. block_read (found h i s k)) (upto n), drop (place i n) s)
  blocks_read n le = search (rules, blocks_in, coded_read, map-map)

  -- a code that ends too early
  pub cut_behind : length i.lens < blocks h.shape → read_code (width_of h.ty) h.mode (extent_of h.shape (length i.lens)) (drop (place i (length i.lens)) s) ≡ None
      → (all : ℕ) → said_behind h all (drop i.start s) ≡ Err (faults.Truncated (length i.lens))
  cut_behind lt none all =
      let n = length i.lens in
      behind_err h all (drop i.start s) (faults.Truncated n)
      (ap (codes_answer h all) (read_codes-cut h n (blocks h.shape) (drop i.start s) (drop (place i n) s) (map (λ k. block_read (found h i s k)) (upto n)) lt (blocks_read n (omega arith)) none))

  -- all codes are there, so the answer is that of what stands behind them
  module _ (count : length i.lens ≡ blocks h.shape) (within : place i (length i.lens) ≤ length s) where
    pub answer_behind : said_behind h (length s) (drop i.start s)
        ≡ result_map_both (λ good. record { header = h; codes = codes_in i s; values = values_of_blocks h.shape (blocks_found h i s) }) (λ e. e)
        (fill_answer h (place i (length i.lens)) (drop (place i (length i.lens)) s))
    answer_behind =
        let n = length i.lens in
        let p = place i n in
        let rest = drop p s in
        let used : length s - length rest ≡ p = omega (arith, length-drop p s, within) in
        let Saying : List (List Bool) → List (List ℤ) → ℕ → Result Said StreamFault = λ cs bs k.
        result_map_both (λ good. record { header = h; codes = cs; values = values_of_blocks h.shape bs }) (λ e. e) (fill_answer h k rest) in
        let first : ℕ → List Bool × List ℤ = coded in search (rules, by_coded, coded_read, map-map)

    -- what stands behind them has a fault
    pub judged_behind : (e : StreamFault) → fill_answer h (place i (length i.lens)) (drop (place i (length i.lens)) s) ≡ Err e
        → said_behind h (length s) (drop i.start s) ≡ Err e
    judged_behind e bad = search (rules, answer_behind)

    -- which one judges who sees only so many of the bits from there on
    pub fill_seen : (r : Reader) (m : ℕ) → r.at ≡ place i (length i.lens) % 64 → rest r ≡ take m (drop (place i (length i.lens)) s) → 64 ≤ m
        → fill_answer h r.at (rest r) ≡ fill_answer h (place i (length i.lens)) (drop (place i (length i.lens)) s)
    fill_seen r m at left enough = search (rules, left, fill_cut, fill_place)

-- a code that is seen among so many of the bits from its place on
pub code_seen : (h : Header) (s t : List Bool) (at m k : ℕ) (es : List ℕ) → length es ≡ length h.shape → longest_code h ≤ m → at ≤ length s → t ≡ take m (drop at s)
    → HasCode (width_of h.ty) h.mode (length h.shape) t k → (len_read (read_code (width_of h.ty) h.mode es (drop at s)) ≡ Some k) × (at + k ≤ length s)
code_seen h s t at m k es dims enough inside is has = search (rules, cut_told, length-take, length-drop)

-- one code more is read
pub one_more : (h : Header) (s : List Bool) (start : ℕ) (xs : List ℕ) (n : ℕ) → AreRead h (record { start = start; lens = xs }) s
    → len_read (found h (record { start = start; lens = xs }) s (length xs)) ≡ Some n → AreRead h (record { start = start; lens = xs ++ n ∷ [] }) s
one_more h s start xs n read last b lt =
    let i : Index = record { start = start; lens = xs } in
    let j : Index = record { start = start; lens = xs ++ n ∷ [] } in
    let Is : ℕ → Type 0 = λ k. len_read (found h j s k) ≡ Some (len_at j k) in
    let there : (k : ℕ) → k ≤ length xs → found h j s k ≡ found h i s k =
    λ k le. ap (λ p. read_code (width_of h.ty) h.mode (extent_of h.shape k) (drop p s)) (place-push start xs n k le) in
    ⊎_elim
    (λ below. ap len_read (there b (omega arith)) ∙ read b below ∙ ap Some (sym (len-push start xs n b below)))
    (λ ge. let same : length xs ≡ b = omega (arith, lt, length-append xs (n ∷ [])) in
    subst Is same (ap len_read (there (length xs) (omega arith)) ∙ last ∙ ap Some (sym (len-last start xs n))))
    (cases_lt b (length xs))

-- ---- what the bytes say

module _ (bytes : List ℕ) (h : Header) (has : HasHeader bytes h) where
  pub is_header : IsHeader h
  is_header = subst IsHeader (sym has.header) (read_is_header bytes (good bytes (sym has.good)))

  pub begun : (bits : ℕ) → bits ≡ length (header_bits h) → BeginsWithHeader bytes h bits
  begun bits is =
      let begins = subst (BeginsWith bytes) (sym has.header) (read_is_spelled bytes (good bytes (sym has.good))) in
      record { good = has.good; header = has.header; bits_is = is; within = omega (arith, is, begins_within bytes h begins) }

module _ (bytes : List ℕ) (h : Header) (start : ℕ) (begun : BeginsWithHeader bytes h start) where
  pub has_header : HasHeader bytes h
  has_header = record { good = begun.good; header = begun.header }

  pub fault_is : (r : Reader) (e : IndexFault) → r.all ≡ to_bits bytes → r.at ≡ start → HasFault h r e → IsFault (parse bytes) (stream_fault e)
  fault_is r e all at fault = search (rules, left, parse_behind)

  pub index_is : (lens : List ℕ) → length (to_bits bytes) < 2 ^ 64 → IsWalked h (to_bits bytes) (record { start = start; lens = lens }) → IsIndexOf bytes h (record { start = start; lens = lens })
  index_is lens small walked =
      let bits = to_bits bytes in
      let i : Index = record { start = start; lens = lens } in
      let cs = codes_in i bits in
      let said : Said = record { header = h; codes = cs; values = values_of_blocks h.shape (blocks_found h i bits) } in
      let long : (b : ℕ) → b < length lens → length (code_in i bits b) ≡ len_at i b =
      λ b lt. length-take-le (len_at i b) (drop (place i b) bits) (omega (arith, length-drop (place i b) bits, ends_within i b (length lens) lt, walked.within)) in
      record {
        start = begun.bits_is;
        count = walked.count;
        said = parse_behind bytes h start begun ∙ answer_behind h i bits walked.read walked.count walked.within
            ∙ ap (λ (r : Result (Unit {0}) StreamFault). result_map_both (λ good. said) (λ e. e) r) walked.fill;
        lens = lens_are i bits long;
        read = walked.read;
        within = walked.within;
        small = small;
      }
    where
      lens_are : (i : Index) (bits : List Bool) → ((b : ℕ) → b < length i.lens → length (code_in i bits b) ≡ len_at i b) → map length (codes_in i bits) ≡ i.lens
      lens_are i bits long = lengths (code_in i bits) i.lens (length i.lens) refl long
        where
          lengths : (f : ℕ → List Bool) (xs : List ℕ) (n : ℕ) → length xs ≡ n → ((b : ℕ) → b < n → length (f b) ≡ get_or xs b 0) → map length (map f (upto n)) ≡ xs
          lengths f xs n long each = map-map length f (upto n) ∙ from_places (λ b. length (f b)) n 0 xs long (λ b lt. sym (each b lt))

-- an array has a block
pub blocks_some : (bytes : List ℕ) (h : Header) → HasHeader bytes h → 0 < blocks h.shape
blocks_some bytes h has = (grid_of_shape h.shape (with_unused 1 (grid h.shape)) (is_header bytes h has).shape refl).some
