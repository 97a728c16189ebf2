-- A stream parses to what its codes say.
use Rattle.std.proofs.Common.{◌≡◌, refl, ap, ◌∙◌, ℕ, zero, suc, ◌+◌, ◌%◌, ◌<◌, ◌≤◌, Bool, false, le-ltb, ℤ, Some, Ok, List, ◌++◌, map, length, take, drop, replicate, append_assoc, length-append, arith, rules}
use Rattle.std.{specs.List.{flat_map}, proofs.lemmas.Simd.{map-map}}
use Rattle.std.proofs.lemmas.List.{length-replicate}
use Rattle.std.proofs.Math.Seq.{take-append_seam, drop-append_seam, take-length}
use Rattle.zf_spec.{specs.Grid.{count_from, upto, blocks, extent_of}, proofs.Reach.{has_one-zeros}}
use Rattle.zf_spec.specs.Stream.{fill_len, with_fill, to_bytes, to_bits}
use Rattle.zf_spec.proofs.Bytes.{to_bits-to_bytes, length-with_fill}
use Rattle.zf_base.specs.Widths.{width_of}
use Rattle.zf_header.specs.declared.header.Header.{Header}
use Rattle.zf_header.specs.HeaderBits.{IsHeader, BeginsWith, header_bits}
use Rattle.zf_header.proofs.Spelled.{spelled_is_read, spelled_is_good}
use Rattle.zf_parse.specs.Parsing.{read_code, coded_blocks, read_codes, values_of_blocks, fill_answer, header_of, parse}
use Rattle.zf_parse.proofs.Steps.{values_in, values_said}

-- ---- the codes of blocks, one after another

-- codes end to end
abbrev pub end_to_end : (ℕ → List Bool) → List ℕ → List Bool
end_to_end code bs = flat_map (λ c. c) (map code bs)

-- the code of block b is read whole, whatever comes after, and stands for this block
abbrev pub ReadsBack : Header → (ℕ → List Bool) → (ℕ → List ℤ) → ℕ → Type 0
ReadsBack h code back b = (more : List Bool) → read_code (width_of h.ty) h.mode (extent_of h.shape b) (code b ++ more) ≡ Some (back b, length (code b))

pub coded_blocks-codes : (h : Header) (code : ℕ → List Bool) (back : ℕ → List ℤ) (b n : ℕ) (more : List Bool)
    → ((k : ℕ) → b ≤ k → k < b + n → ReadsBack h code back k)
    → coded_blocks h b n (end_to_end code (count_from b n) ++ more) ≡ Ok (map (λ k. (code k, back k)) (count_from b n), more)
coded_blocks-codes h code back b zero more reads = refl
coded_blocks-codes h code back b (suc n) more reads =
    grind (
      arith,
      append_assoc (code b) (end_to_end code (count_from (suc b) n)) more,
      take-append_seam (code b) ((end_to_end code (count_from (suc b) n)) ++ more),
      drop-append_seam (code b) ((end_to_end code (count_from (suc b) n)) ++ more),
      coded_blocks-codes h code back (suc b) n more (λ k low high. reads k (omega arith) (omega arith)),
    )

-- the blocks alone
pub read_codes-codes : (h : Header) (code : ℕ → List Bool) (back : ℕ → List ℤ) (b n : ℕ) (more : List Bool)
    → ((k : ℕ) → b ≤ k → k < b + n → ReadsBack h code back k)
    → read_codes h b n (end_to_end code (count_from b n) ++ more) ≡ Ok (map back (count_from b n), more)
read_codes-codes h code back b n more reads =
    cc (coded_blocks-codes h code back b n more reads, map-map (λ (c : List Bool × List ℤ). c.1) (λ k. (code k, back k)) (count_from b n))

-- ---- the fill

fill_good : (h : Header) (used n : ℕ) → n ≡ fill_len used → fill_answer h used (replicate n false) ≡ Ok tt
fill_good h used n is =
    cc (length-replicate n false, le-ltb n n (omega arith), take-length (replicate n false), has_one-zeros n)

-- ---- the whole stream

-- bytes whose bits are these
module _ (h : Header) (bytes : List ℕ) (codes : List Bool) (n : ℕ) (is_header : IsHeader h) (bits : to_bits bytes ≡ (header_bits h ++ codes) ++ replicate n false) where
  together : to_bits bytes ≡ header_bits h ++ (codes ++ replicate n false)
  together = bits ∙ append_assoc (header_bits h) codes (replicate n false)

  begins : BeginsWith bytes h
  begins = record { bits = ap (take (length (header_bits h))) together ∙ take-append_seam (header_bits h) (codes ++ replicate n false) }

  -- begin with the header
  header_is : header_of bytes ≡ h
  header_is = spelled_is_read bytes h is_header begins

  behind_header : drop (length (header_bits h)) (to_bits bytes) ≡ codes ++ replicate n false
  behind_header = ap (drop (length (header_bits h))) together ∙ drop-append_seam (header_bits h) (codes ++ replicate n false)

  -- and parse to what the codes say
  parse_bits : (found : List (List Bool × List ℤ)) → n ≡ fill_len (length (header_bits h ++ codes))
      → coded_blocks h 0 (blocks h.shape) (codes ++ replicate n false) ≡ Ok (found, replicate n false)
      → parse bytes ≡ Ok (record { header = h; codes = map (λ c. c.0) found; values = values_of_blocks h.shape (map (λ c. c.1) found) })
  unfolding parse
  parse_bits found fill reads =
      search (rules, length-append, fill_good, spelled_is_good, begins, header_is, behind_header)

-- the file of a header and codes
module _ (h : Header) (code : ℕ → List Bool) (is_header : IsHeader h) where
  file_bits : let bs = with_fill (header_bits h ++ end_to_end code (upto (blocks h.shape))) in to_bits (to_bytes bs) ≡ bs
  file_bits =
      let bs = header_bits h ++ end_to_end code (upto (blocks h.shape)) in
      let whole : length (with_fill bs) % 8 ≡ 0 = omega (arith, length-with_fill bs) in
      to_bits-to_bytes (with_fill bs) whole

  pub header_of-file : header_of (to_bytes (with_fill (header_bits h ++ end_to_end code (upto (blocks h.shape))))) ≡ h
  header_of-file = search (rules, header_is, file_bits)

  pub parse-file : (back : ℕ → List ℤ) → ((b : ℕ) → b < blocks h.shape → ReadsBack h code back b)
      → let bytes = to_bytes (with_fill (header_bits h ++ end_to_end code (upto (blocks h.shape)))) in
      let values = values_of_blocks h.shape (map back (upto (blocks h.shape))) in
      (values_said bytes ≡ Ok values) × (parse bytes ≡ Ok (record { header = h; codes = map code (upto (blocks h.shape)); values = values }))
  unfolding values_said
  parse-file back reads =
      let ks = upto (blocks h.shape) in
      let codes = end_to_end code ks in
      let bytes = to_bytes (with_fill (header_bits h ++ codes)) in
      let n = fill_len (length (header_bits h ++ codes)) in
      let coded : ℕ → List Bool × List ℤ = λ k. (code k, back k) in
      let each = λ (k : ℕ) (low : 0 ≤ k) (high : k < 0 + blocks h.shape). reads k (omega (arith, high)) in
      let read = coded_blocks-codes h code back 0 (blocks h.shape) (replicate n false) each in
      let found = parse_bits h bytes codes n is_header file_bits (map coded ks) refl read in
      let said : parse bytes ≡ Ok (record { header = h; codes = map code ks; values = values_of_blocks h.shape (map back ks) }) =
      cc (map-map (λ (c : List Bool × List ℤ). c.0) coded ks, map-map (λ (c : List Bool × List ℤ). c.1) coded ks) in
      (ap values_in said, said)
