-- What a file of a rate says, and why it says nothing.
use Rattle.std.proofs.Common.{◌≡◌, ◌≢◌, inl, inr, refl, sym, ap, subst, ◌∙◌, ℕ, ◌+◌, ◌-◌, ◌*◌, ◌/◌, ◌^◌, ◌<◌, ◌≤◌, min, Bool, false, List, ◌++◌, length, take, drop, replicate, All, Err, append_assoc, length-append, length-drop, arith, rules}
use Rattle.std.{specs.Int.{div_ceil}, proofs.Math.Nat.{div-lt_iff_lt-mul, le-div_iff_mul-le, mul-le-mul}}
use Rattle.std.proofs.lemmas.Bool.{cases_lt}
use Rattle.std.proofs.lemmas.List.{length-take-le, take-append-drop, take-append-le, take_at, drop-append-le, drop-drop, take_all}
use Rattle.zf_spec.{specs.Grid.{blocks, extent_of, IsShape}, specs.Codes.{read_rate}}
use Rattle.zf_spec.{specs.Numbers.{number, word_bits}, proofs.Bytes.{length-to_bits, to_bytes-to_bits}}
use Rattle.zf_spec.specs.Stream.{to_bits, to_bytes, with_fill, fill_len, file}
use Rattle.zf_spec.{proofs.Fields.{field-number, field-zero}, proofs.Counting.{map-upto_same}}
use Rattle.zf_bits.proofs.Words.{take-words}
use Rattle.zf_base.{specs.Widths.{width_of}, proofs.Sizes.{blocks_le}, specs.Formats.{meant}}
use Rattle.zf_header.{specs.declared.header.Header.{Header}, proofs.Good.{good}}
use Rattle.zf_header.specs.HeaderBits.{IsRate, IsHeader, BeginsWith, block_bits, header_bits, rate_bytes_of}
use Rattle.zf_header.proofs.Modes.{mode_is_rate, rate_is_some}
use Rattle.zf_header.proofs.Parts.{length-header_bits, length-header_bits_le}
use Rattle.zf_header.proofs.Found.{read_is_spelled, read_is_header, begins_within}
use Rattle.zf_parse.specs.declared.fault.StreamFault.TheVariants.{Truncated, Pad, Trailing}
use Rattle.zf_parse.{specs.Parsing.{parse}, specs.ReadStreams.{BeginsWithHeader}}
use Rattle.zf_parse.proofs.ParseOfStream.{ReadsBack, parse-file}
use Rattle.zf_parse.proofs.RateStreams.{code_cut, end_to_end-cut, length-cut, read_code-rate, parse_cut, parse_fill_short, parse_pad, parse_trailing}
use Rattle.zf_cached.proofs.Arrays.{meant-rate}
use Rattle.zf_store.{specs.Stored.{code_at, format_of}, specs.Files.{HasHeader, IsOpened}}
use Rattle.zf_store.specs.Words.{with_codes, all_bits, IsWholeFile}
use Rattle.zf_store.proofs.Cut.{codes_in-prefix, get_or-codes_in, joined-codes_in, length-codes_in}

-- ---- headers with a rate

-- all codes have at most 2^42 bits
pub all_bits_most : (h : Header) → IsShape h.shape → IsRate h.mode → all_bits h ≤ 2 ^ 42
all_bits_most h is rate = search (rules, blocks_le, mul-le-mul, rate_is_some)

module _ (bytes : List ℕ) (h : Header) (has : HasHeader bytes h) where
  pub is_header : IsHeader h
  is_header = subst IsHeader (sym has.header) (read_is_header bytes (good bytes (sym has.good)))

  pub begins : BeginsWith bytes h
  begins = subst (BeginsWith bytes) (sym has.header) (read_is_spelled bytes (good bytes (sym has.good)))

  pub header_within : length (header_bits h) ≤ 8 * length bytes
  header_within = begins_within bytes h begins

  pub begun : BeginsWithHeader bytes h (length (header_bits h))
  begun = record { good = has.good; header = has.header; bits_is = refl; within = header_within }

  pub header_least : 96 ≤ length (header_bits h)
  header_least = omega (arith, length-header_bits h is_header.shape)

  pub header_most : length (header_bits h) ≤ 148
  header_most = length-header_bits_le h is_header.shape

  pub rate_bytes_most : rate_bytes_of h < 2 ^ 60
  rate_bytes_most = omega (arith, header_most, all_bits_most h is_header.shape has.rate)

  length-behind : length (drop (length (header_bits h)) (to_bits bytes)) ≡ 8 * length bytes - length (header_bits h)
  length-behind = length-drop (length (header_bits h)) (to_bits bytes) ∙ ap (λ k. k - length (header_bits h)) (length-to_bits bytes)

  in_bits : length (header_bits h) ≤ length (to_bits bytes)
  in_bits = omega (arith, header_within, length-to_bits bytes)

  -- the bits up to the end of the fill
  whole_bits : rate_bytes_of h * 8 ≡ length (header_bits h) + blocks h.shape * block_bits h.mode + fill_len (length (header_bits h) + blocks h.shape * block_bits h.mode)
  whole_bits = omega arith

  pub parse_short : (b : ℕ) → length bytes < rate_bytes_of h → b ≡ min ((8 * length bytes - length (header_bits h)) / block_bits h.mode) (blocks h.shape) → parse bytes ≡ Err (Truncated b)
  parse_short b short is =
      let s = drop (length (header_bits h)) (to_bits bytes) in
      let some = (rate_is_some h.mode has.rate).0 in
      let quotient : (8 * length bytes - length (header_bits h)) / block_bits h.mode ≡ length s / block_bits h.mode = ap (λ k. k / block_bits h.mode) (sym length-behind) in
      elim (cases_lt (length s) (blocks h.shape * block_bits h.mode)) [
        | inl cut ↦
            let same : length s / block_bits h.mode ≡ b = let below = (div-lt_iff_lt-mul some).1 cut in omega (arith, quotient, is, below) in
            parse_cut bytes h (length (header_bits h)) (block_bits h.mode) begun (mode_is_rate h.mode has.rate) some cut ∙ ap (λ (k : ℕ). Err (Truncated k)) same
        | inr long ↦
            let all : blocks h.shape ≡ b = let above = (le-div_iff_mul-le some).1 long in omega (arith, quotient, is, above) in
            parse_fill_short bytes h (length (header_bits h)) (block_bits h.mode) begun (mode_is_rate h.mode has.rate) in_bits long
            (omega (arith, length-drop (blocks h.shape * block_bits h.mode) s, length-behind, header_within, whole_bits, short)) ∙ ap (λ (k : ℕ). Err (Truncated k)) all
      ]

  -- what stands behind the codes
  fill_at : drop (blocks h.shape * block_bits h.mode) (drop (length (header_bits h)) (to_bits bytes)) ≡ drop (length (header_bits h) + blocks h.shape * block_bits h.mode) (to_bits bytes)
  fill_at = drop-drop (blocks h.shape * block_bits h.mode) (length (header_bits h)) (to_bits bytes)

  module _ (fill_number : ℕ) (is : fill_number ≡ number (take (fill_len (length (header_bits h) + blocks h.shape * block_bits h.mode)) (drop (length (header_bits h) + blocks h.shape * block_bits h.mode) (to_bits bytes)))) where
    same_number : number (take (fill_len (length (header_bits h) + blocks h.shape * block_bits h.mode)) (drop (blocks h.shape * block_bits h.mode) (drop (length (header_bits h)) (to_bits bytes)))) ≡ fill_number
    same_number = ap (λ (bs : List Bool). number (take (fill_len (length (header_bits h) + blocks h.shape * block_bits h.mode)) bs)) fill_at ∙ sym is

    pub parse_one : rate_bytes_of h ≤ length bytes → fill_number ≢ 0 → parse bytes ≡ Err Pad
    parse_one enough one = search (rules, parse_pad, begun, mode_is_rate, in_bits, length-behind, whole_bits, length-drop, same_number)

    pub parse_more : rate_bytes_of h < length bytes → fill_number ≡ 0 → parse bytes ≡ Err Trailing
    parse_more more none = search (rules, parse_trailing, begun, mode_is_rate, in_bits, length-behind, whole_bits, length-drop, same_number)

    pub whole_file : rate_bytes_of h ≡ length bytes → fill_number ≡ 0 → IsWholeFile bytes h
    whole_file all none =
        let bits = to_bits bytes in
        let hb = header_bits h in
        let s = drop (length hb) bits in
        let m = blocks h.shape * block_bits h.mode in
        let cs = take m s in
        let fill = drop m s in
        let long_cs : length cs ≡ m = length-take-le m s (omega (arith, length-behind, whole_bits, all)) in
        let long : length fill ≡ fill_len (length hb + m) = omega (arith, length-drop m s, length-behind, whole_bits, all) in
        let prefix_size : length (hb ++ cs) ≡ length hb + m = omega (arith, length-append hb cs) in
        let zero : number fill ≡ 0 = ap number (sym (take_all (fill_len (length hb + m)) fill (omega (arith, long)))) ∙ same_number ∙ none in
        let zeros : fill ≡ replicate (fill_len (length (hb ++ cs))) false = cc (field-number (length fill) fill refl, field-zero (length fill)) in
        record {
          size = sym all;
          bits = cc (take-append-drop (length hb) bits, begins.bits, take-append-drop m s, append_assoc hb cs fill);
        }

  -- ---- a whole file is opened

  pub enough_bits : IsWholeFile bytes h → blocks h.shape * block_bits h.mode ≤ length (drop (length (header_bits h)) (to_bits bytes))
  enough_bits whole = omega (arith, length-behind, whole_bits, whole.size)

  -- the words of a file, after its codes were moved to the front and the rest was cut off
  pub moved_codes : IsWholeFile bytes h → (moved : List ℕ) (old : List Bool) (items rest : List ℕ) (held count len all n : ℕ)
      → items ≡ take count (take held (moved ++ rest)) → length moved ≡ held → count ≡ div_ceil all 64 → len ≡ length (header_bits h) → all ≡ all_bits h
      → old ≡ with_fill (to_bits bytes) → take (64 * div_ceil all 64) (word_bits moved) ≡ take all (drop len old) ++ replicate (64 * div_ceil all 64 - all) false → n ≡ div_ceil all 64
      → word_bits items ≡ take (blocks h.shape * block_bits h.mode) (drop (length (header_bits h)) (to_bits bytes)) ++ replicate (64 * n - blocks h.shape * block_bits h.mode) false
  moved_codes whole moved old items rest held count len all n is_items is_held is_count is_len is_all is_old is_moved is_n =
      let bits = to_bits bytes in
      let prefix : take held (moved ++ rest) ≡ moved = take_at moved rest held is_held in
      search (rules, enough_bits, length-behind, header_within, length-to_bits, drop-append-le, take-append-le, length-drop, take-words)

  module _ (whole : IsWholeFile bytes h) (small : All (λ b. b < 256) bytes) where
    file_is : to_bytes (with_fill (header_bits h ++ take (blocks h.shape * block_bits h.mode) (drop (length (header_bits h)) (to_bits bytes)))) ≡ bytes
    file_is = ap to_bytes (sym whole.bits) ∙ to_bytes-to_bits bytes small

    enough : blocks h.shape * block_bits h.mode ≤ length (drop (length (header_bits h)) (to_bits bytes))
    enough = enough_bits whole

    opened_bits : IsOpened bytes h (with_codes h (drop (length (header_bits h)) (to_bits bytes)))
    unfolding file header_bits
    opened_bits =
        let s = drop (length (header_bits h)) (to_bits bytes) in
        let w = width_of h.ty in
        let cut = code_cut (block_bits h.mode) s in
        let back = λ (b : ℕ). read_rate w (extent_of h.shape b) (cut b) in
        let reads : (b : ℕ) → b < blocks h.shape → ReadsBack h cut back b =
        λ b below more. read_code-rate h (block_bits h.mode) (extent_of h.shape b) (cut b) more (mode_is_rate h.mode has.rate) (length-cut (block_bits h.mode) (blocks h.shape) b s enough below) in
        let parsed = parse-file h cut is_header back reads in
        let joined = end_to_end-cut (block_bits h.mode) s (blocks h.shape) in
        let store = with_codes h s in
        let meant_is : (b : ℕ) → b < blocks h.shape → back b ≡ meant (format_of store) b (code_at store b) =
        λ b below. sym (meant-rate w (block_bits h.mode) h.shape b (code_at store b) ∙ ap (read_rate w (extent_of h.shape b)) (get_or-codes_in (block_bits h.mode) (blocks h.shape) s b below)) in
        let values = map-upto_same back (λ b. meant (format_of store) b (code_at store b)) (blocks h.shape) meant_is in search (rules, length-codes_in, joined-codes_in, file_is)

    pub opened : (bits zeros : List Bool) → bits ≡ take (blocks h.shape * block_bits h.mode) (drop (length (header_bits h)) (to_bits bytes)) ++ zeros → IsOpened bytes h (with_codes h bits)
    opened bits zeros is = search (rules, codes_in-prefix, take_at, length-take-le, enough, opened_bits)
