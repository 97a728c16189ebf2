-- The bits of words of any width, end to end, and a word of 64 in which a bit is set.
use Rattle.std.proofs.Common.{rules, ◌≡◌, ℕ, ◌+◌, ◌*◌, ◌/◌, ◌%◌, ◌^◌, ◌<◌, Bool, false, List, [], ◌∷◌, length, get_or, take, arith, length-append}
use Rattle.std.{specs.List.{flat_map}, proofs.Math.Nat.{mul-suc, mul_comm}}
use Rattle.std.{proofs.lemmas.List.{length-take-le}, proofs.lemmas.List.Concat.{get_or-flat_map}}
use Rattle.std.proofs.lemmas.Nat.{div_below, mod_below, div-add-mod'}
use Rattle.zf_spec.{specs.Numbers.{is_odd, field, word_bits}, proofs.Fields.{length-field, get_or-field}}

-- ---- the bits of words

pub length-flat_map-field : (w : ℕ) (words : List ℕ) → length (flat_map (field w) words) ≡ w * length words
length-flat_map-field w [] = omega arith
length-flat_map-field w (v ∷ words) =
    let more = length-flat_map-field w words in search (rules, length-field, length-append, mul-suc)

-- bit i is bit i % w of word i / w
pub get_or-flat_map-field : (w : ℕ) (words : List ℕ) (i : ℕ) (d : Bool) → 0 < w → i < w * length words → get_or (flat_map (field w) words) i d ≡ is_odd (get_or words (i / w) 0 / 2 ^ (i % w))
get_or-flat_map-field w words i d positive within =
    let at_word : i / w < length words = div_below i w (length words) positive (rw mul_comm within) in
    let at_bit : i % w < w = mod_below i w positive in
    let v = get_or words (i / w) 0 in
    let whole = length-flat_map-field w (take (i / w) words) in
    let long : length (take (i / w) words) ≡ i / w = length-take-le (i / w) words (omega arith) in
    let place : i ≡ w * (i / w) + i % w = omega (arith, div-add-mod' i w, mul_comm (i / w) w) in
    cc (length-field w v, get_or-flat_map (field w) words (i / w) (i % w) 0 d at_word (omega (arith, length-field w v)), get_or-field w v (i % w) d at_bit)

pub length-word_bits : (words : List ℕ) → length (word_bits words) ≡ 64 * length words
length-word_bits words = length-flat_map-field 64 words

pub get_or-word_bits : (words : List ℕ) (r : ℕ) → r < 64 * length words → get_or (word_bits words) r false ≡ is_odd (get_or words (r / 64) 0 / 2 ^ (r % 64))
get_or-word_bits words r within = get_or-flat_map-field 64 words r false (omega arith) within

-- ---- a bit that is set
