-- Bits of several planes in one word.
use Rattle.std.proofs.Common.{rules, ◌≡◌, ℕ, zero, suc, false, set, replicate, refl, ◌∷◌, ◌+◌, ◌-◌, ◌*◌, ◌/◌, ◌%◌, ◌^◌, ◌<◌, ◌≤◌, ⊎_elim, min, Bool, List, ◌++◌, length, take, drop, get_or, sym, ap, ◌∙◌, arith}
use Rattle.std.{specs.Int.Bits.{bit_or}, proofs.Math.Nat.{pow-le-pow_right, mod-le, div-eq_of_lt}}
use Rattle.std.{proofs.Math.Seq.{take-append-add}, proofs.lemmas.Bool.{cases_lt}}
use Rattle.std.proofs.lemmas.Nat.{or_lt, shl_below, mod_below, pow_pos}
use Rattle.std.proofs.lemmas.List.{take_all, drop_at, length-append, length-replicate, replicate-append-replicate}
use Rattle.zf_spec.{specs.Numbers.{field, word_bits}, specs.HeldPlanes.{digits_held, IsClearFrom}}
use Rattle.zf_spec.proofs.Fields.{length-field, field-add, field-zero, field-mod}
use Rattle.zf_spec.proofs.HeldPlanes.{length-digits_held}
use Rattle.zf_bits.{proofs.Fields.{take-field}, proofs.Words.{field_or}}
use Rattle.zf_planes.{proofs.Digits.{field_in_word, masked}, proofs.Doubled.{word_prefix}}

-- as many bits of a word as a budget has
pub take_field : (left n v : ℕ) → take left (field n v) ≡ field (min left n) v
take_field left n v = ⊎_elim
    (λ (cut : left < n). let less : min left n ≡ left = omega arith in rw less (word_prefix n left v (omega arith)))
    (search (rules, take_all, length-field))
    (cases_lt left n)

-- n bits behind others in one word
pub bits_behind : (len n a v : ℕ) → len + n ≤ 64 → a < 2 ^ len → field (len + n) (bit_or a (v * 2 ^ len % 2 ^ 64)) ≡ field len a ++ field n v
bits_behind len n a v within small =
    let x = bit_or a (v * 2 ^ len % 2 ^ 64) in
    let more = 64 - len - n in
    let whole : 64 ≡ (len + n) + more = omega arith in
    let high : 64 - len ≡ n + more = omega arith in
    let place : len + n ≡ length (field len a) + n = omega (arith, length-field len a) in
    cc (
      take-field (len + n) more x,
      field_or 64 len (64 - len) v a (omega arith) small,
      take-append-add (field len a) (field (64 - len) v) n,
      take-field n more v,
    )

pub small_behind : (len n a v : ℕ) → a < 2 ^ len → v < 2 ^ n → bit_or a (v * 2 ^ len % 2 ^ 64) < 2 ^ (len + n)
small_behind len n a v small narrow =
    let order : len ≤ len + n = omega arith in
    let place : n + len ≡ len + n = omega arith in search (rules, or_lt, pow-le-pow_right, mod-le, shl_below)

-- ---- the code of planes goes on behind bits that were put together

-- the digits of a plane in one word
pub held_word : (size w : ℕ) (ws : List ℕ) → w ≡ get_or ws 0 0 → size ≤ 64 → size ≤ 64 * length ws → digits_held size ws ≡ field size w
unfolding digits_held
held_word size w ws is small long =
    let one : w / 2 ^ 0 ≡ w = omega arith in
    sym (take_all size (digits_held size ws) (omega (arith, length-digits_held size ws long))) ∙ sym (field_in_word size 0 size w ws is long (omega arith) (omega arith)) ∙ ap (field size) one

-- what is known of a word that has all of them
pub ruleset first_digits = (masked, field-mod, held_word, mod_below, pow_pos)

-- the digits of a plane of four
pub held_4 : (w : ℕ) (ws : List ℕ) → w ≡ get_or ws 0 0 → 4 ≤ 64 * length ws → digits_held 4 ws ≡ field 4 (w % 16)
held_4 w ws is long = held_word 4 w ws is (omega arith) long ∙ sym (field-mod 4 w)

-- ---- a plane in one word that is put in

zero_bits : (k : ℕ) → word_bits (replicate k 0) ≡ replicate (64 * k) false
zero_bits zero = refl
zero_bits (suc k) =
    let more : 64 + 64 * k ≡ 64 * suc k = omega arith in
    cc (field-zero 64, zero_bits k, replicate-append-replicate 64 (64 * k) false)

-- the first of some words that are zero but for it
first_word : (k digits : ℕ) → digits < 2 ^ 64 → word_bits (digits ∷ replicate k 0) ≡ field (64 + 64 * k) digits
first_word k digits fits = search (rules, div-eq_of_lt, zero_bits, field-zero, field-add)

pub written : (size k digits : ℕ) (ws ws' : List ℕ) → digits < 2 ^ 64 → size ≤ 64 * k → 0 < k → ws ≡ replicate k 0 → ws' ≡ set ws 0 digits → digits < 2 ^ size → (digits_held size ws' ≡ field size digits) × IsClearFrom size ws'
unfolding digits_held IsClearFrom
written size zero digits ws ws' fits enough some blank is small = absurd (omega arith)
written size (suc k) digits ws ws' fits enough some blank is small =
    let m = 64 + 64 * k - size in
    let parts : size + m ≡ 64 + 64 * k = omega arith in
    let none : digits / 2 ^ size ≡ 0 = div-eq_of_lt small in
    let held : ws' ≡ digits ∷ replicate k 0 = is ∙ ap (λ vs. set vs 0 digits) blank in
    let whole = ap word_bits held ∙ first_word k digits fits ∙ ap (λ n. field n digits) (sym parts) in
    let split : word_bits ws' ≡ field size digits ++ replicate m false =
    whole ∙ field-add size m digits ∙ ap (λ v. field size digits ++ field m v) none ∙ ap (λ (bs : List Bool). field size digits ++ bs) (field-zero m) in
    let behind = ap (drop size) split ∙ drop_at (field size digits) (replicate m false) size (length-field size digits) in
    let count : m ≡ length (word_bits ws') - size = omega (arith, ap length split, length-append (field size digits) (replicate m false), length-field size digits, length-replicate m false) in
    search (rules, take-field)
