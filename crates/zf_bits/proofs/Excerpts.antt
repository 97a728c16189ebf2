-- A few of the bits of a file.
use Rattle.std.proofs.Common.{◌≡◌, sym, ap, ◌∙◌, ℕ, ◌+◌, ◌-◌, ◌*◌, ◌/◌, ◌%◌, ◌<◌, ◌≤◌, min, Bool, List, ◌++◌, length, get_or, take, drop, length-drop, arith, rules}
use Rattle.std.{specs.Int.{w64, from_le_bytes}, proofs.lemmas.Bool.{cases_lt}, proofs.lemmas.Grind.{flat_map-append}}
use Rattle.std.proofs.lemmas.List.{take_at, take_all, take-append-drop, drop_at, drop-drop, drop-take, get_or-drop, length-take-le}
use Rattle.zf_spec.{specs.Numbers.{field}, specs.Stream.{first_bytes, to_bits}, proofs.Bytes.{length-to_bits, first_bytes-all}}
use Rattle.zf_bits.{specs.Packing.{word_of}, proofs.Packed.{field-word_of, first_bytes-more}}

-- the bits of some of the bytes
to_bits-cut : (bytes : List ℕ) (first n : ℕ) → first + n ≤ length bytes → to_bits (take n (drop first bytes)) ≡ take (8 * n) (drop (8 * first) (to_bits bytes))
to_bits-cut bytes first n within =
    let prefix = take first bytes in
    let behind = drop first bytes in
    let some = take n behind in
    let rest = drop n behind in
    let long_prefix : length (to_bits prefix) ≡ 8 * first = omega (arith, length-to_bits prefix, length-take-le first bytes (omega arith)) in
    let long_some : length (to_bits some) ≡ 8 * n = omega (arith, length-to_bits some, length-take-le n behind (omega (arith, length-drop first bytes))) in
    let parts : to_bits bytes ≡ to_bits prefix ++ (to_bits some ++ to_bits rest) =
    ap to_bits (sym (take-append-drop first bytes)) ∙ flat_map-append (field 8) prefix behind
    ∙ ap (λ (bs : List Bool). to_bits prefix ++ bs) (ap to_bits (sym (take-append-drop n behind)) ∙ flat_map-append (field 8) some rest) in
    sym (ap (λ (bs : List Bool). take (8 * n) (drop (8 * first) bs)) parts
    ∙ ap (take (8 * n)) (drop_at (to_bits prefix) (to_bits some ++ to_bits rest) (8 * first) long_prefix)
    ∙ take_at (to_bits some) (to_bits rest) (8 * n) long_some)

-- the word of 8 of the bytes
pub field-eight : (bytes : List ℕ) (at : ℕ) → at + 8 ≤ length bytes → ((i : ℕ) → get_or bytes i 0 < 256) → field 64 (from_le_bytes w64 (take 8 (drop at bytes))) ≡ take 64 (drop (8 * at) (to_bits bytes))
unfolding word_of
field-eight bytes at within small =
    let behind = drop at bytes in
    let piece = take 8 behind in
    let enough : 8 ≤ length behind = omega (arith, length-drop at bytes) in
    let long : length piece ≡ 8 = length-take-le 8 behind enough in
    let whole : first_bytes 8 piece ≡ piece = ap (λ k. first_bytes k piece) (sym long) ∙ first_bytes-all piece in
    let same : first_bytes 8 behind ≡ piece =
    sym (ap (first_bytes 8) (take-append-drop 8 behind)) ∙ first_bytes-more 8 piece (drop 8 behind) (omega arith) ∙ whole in
    ap (λ (bs : List ℕ). field 64 (from_le_bytes w64 bs)) (sym same) ∙ field-word_of behind (λ i. rw (get_or-drop at bytes i 0) (small (at + i)))
    ∙ ap to_bits same ∙ to_bits-cut bytes at 8 within

-- the bits that are taken from a place on
module _ (file : List ℕ) (at room count : ℕ) (within : at ≤ 8 * length file) (some : 1 ≤ room) (is : count ≡ min (length file - 8 * (at / 64)) (8 * room)) where
  pub place_within : at % 64 ≤ 8 * count
  place_within = omega (arith, within, some, is)

  pub taken : (bits : List Bool) → bits ≡ to_bits (take count (drop (8 * (at / 64)) file)) → drop (at % 64) bits ≡ take (64 * room - at % 64) (drop at (to_bits file))
  taken bits is_bits =
      let first = 8 * (at / 64) in
      let inside : first + count ≤ length file = omega (arith, is) in
      let split : 8 * count ≡ at % 64 + (8 * count - at % 64) = omega (arith, place_within) in
      let sum : 8 * first + at % 64 ≡ at = omega arith in
      search (rules, place_within, to_bits-cut, drop-take, drop-drop, cases_lt, length-drop, length-to_bits, take_all)
