-- Runs of bits that move between words, a word at a time.
use Rattle.std.proofs.Common.{◌≡◌, ap, ◌∙◌, ℕ, suc, ◌+◌, ◌-◌, ◌*◌, ◌^◌, ◌<◌, ◌≤◌, Bool, false, List, ◌++◌, length, get_or, set, take, drop, replicate, append_assoc, append-nil, length-append, length-drop, arith, rules}
use Rattle.std.{proofs.Math.Nat.{div-eq_of_lt}, proofs.Math.Seq.{take-add, drop-append-add}}
use Rattle.std.proofs.lemmas.List.{length-take-le, take-append-drop, take_at, take-append-le, drop_at, drop-drop}
use Rattle.zf_spec.{specs.Numbers.{field, number, word_bits}, proofs.WordBits.{length-word_bits}}
use Rattle.zf_spec.proofs.Fields.{length-field, field-number, field-add, field-zero, number-lt}
use Rattle.zf_bits.{proofs.Fields.{take-field}, proofs.Words.{words-set, words_here}}

-- ---- bits of words

-- the first n bits of word i
pub bits_of_word : (words : List ℕ) (i n : ℕ) → i < length words → n ≤ 64 → field n (get_or words i 0) ≡ take n (drop (64 * i) (word_bits words))
bits_of_word words i n within narrow =
    let v = get_or words i 0 in
    let parts : n + (64 - n) ≡ 64 = omega arith in
    cc (words_here 64 i words within, take-append-le n (field 64 v) (drop (64 * suc i) (word_bits words)) (omega (arith, length-field 64 v)), take-field n (64 - n) v)

-- a word whose lowest bits are these
pub field_of_number : (n : ℕ) (bs : List Bool) → length bs ≡ n → n ≤ 64 → field 64 (number bs) ≡ bs ++ replicate (64 - n) false
field_of_number n bs long narrow =
    let parts : 64 ≡ n + (64 - n) = omega arith in
    let small : number bs < 2 ^ n = omega (arith, number-lt bs, ap (λ k. 2 ^ k) long) in
    cc (field-add n (64 - n) (number bs), field-number n bs long, div-eq_of_lt small, field-zero (64 - n))

-- ---- a run that is put a word at a time

-- the bits with the first m of the code put from bit `at` on
abbrev pub with_run : List Bool → ℕ → List Bool → ℕ → List Bool
with_run old at code m = take at old ++ take m code ++ drop (at + m) old

pub with_run-none : (old : List Bool) (at : ℕ) (code : List Bool) → with_run old at code 0 ≡ old
with_run-none old at code = search (rules, append-nil, take-append-drop)

pub with_run-more : (old : List Bool) (at : ℕ) (code : List Bool) (m n next : ℕ) (now new bits : List Bool) → at + m + n ≤ length old → m + n ≤ length code → next ≡ m + n
    → now ≡ with_run old at code m → bits ≡ take n (drop m code) → new ≡ take (at + m) now ++ bits ++ drop (at + m + n) now → new ≡ with_run old at code next
with_run-more old at code m n next now new bits within held is_next is_now is_bits is_new =
    let prefix = take at old ++ take m code in
    let rest = drop (at + m) old in
    let size : length prefix ≡ at + m = omega (arith, length-append (take at old) (take m code), length-take-le at old (omega arith), length-take-le m code (omega arith)) in
    let long : at + m + n ≡ length prefix + n = omega arith in
    let first : take (at + m) now ≡ prefix = ap (take (at + m)) is_now ∙ take_at prefix rest (at + m) size in
    let last : drop (at + m + n) now ≡ drop (at + m + n) old = cc (drop-append-add prefix rest n, drop-drop n (at + m) old) in
    let sum : at + m + n ≡ at + next = omega arith in cc (append_assoc (take at old) (take m code) (take n (drop m code)), take-add m n code)

-- ---- a run that is moved to the front, a word at a time

-- words 0 to i - 1 hold the first m bits of the run, and then zeros; the words behind are those from before
pub record IsMoved (old : List Bool) (at m i : ℕ) (words : List ℕ) : Type 0 where
  pub moved : take (64 * i) (word_bits words) ≡ take m (drop at old) ++ replicate (64 * i - m) false
  pub behind : drop (64 * i) (word_bits words) ≡ drop (64 * i) old

pub IsMoved-more : (old : List Bool) (at i n next m j x : ℕ) (words : List ℕ) → IsMoved old at (64 * i) i words → i < length words → 64 ≤ at → n ≤ 64 → at + 64 * i + n ≤ length old → j ≡ i + 1 → next ≡ 64 * i + n
    → length old ≡ length (word_bits words) → x ≡ number (take n (drop (at + 64 * i) (word_bits words))) → m ≡ next → IsMoved old at m j (set words i x)
IsMoved-more old at i n next m j x words is within behind narrow enough is_j is_next same is_x is_m =
    let bits = word_bits words in
    let prefix = take (64 * i) bits in
    let rest = drop (64 * suc i) bits in
    let now = words-set 64 i words x within in
    let size : length prefix ≡ 64 * i = length-take-le (64 * i) bits (omega (arith, length-word_bits words)) in
    let whole : length (prefix ++ field 64 x) ≡ 64 * j = omega (arith, length-append prefix (field 64 x), length-field 64 x) in
    let parts = append_assoc prefix (field 64 x) rest in
    let zero_more : 64 * i - 64 * i ≡ 0 = omega arith in
    let first : prefix ≡ take (64 * i) (drop at old) = cc (is.moved, append-nil (take (64 * i) (drop at old))) in
    let other : at + 64 * i ≡ 64 * i + at = omega arith in
    let source : drop (at + 64 * i) bits ≡ drop (64 * i) (drop at old) = cc (drop-drop at (64 * i) bits, is.behind, drop-drop at (64 * i) old, drop-drop (64 * i) at old) in
    let piece = take n (drop (64 * i) (drop at old)) in
    let long : length piece ≡ n = length-take-le n (drop (64 * i) (drop at old)) (omega (arith, length-drop (64 * i) (drop at old), length-drop at old)) in
    let put : field 64 x ≡ piece ++ replicate (64 - n) false = cc (field_of_number n piece long narrow) in
    let pad : 64 - n ≡ 64 * j - m = omega arith in
    let count : 64 * i + n ≡ m = omega arith in
    let one : 64 * suc i ≡ 64 * i + 64 = omega arith in
    let two : 64 * i + 64 ≡ 64 * j = omega arith in
    record {
      moved = cc (take_at (prefix ++ field 64 x) rest (64 * j) whole, append_assoc (take (64 * i) (drop at old)) piece (replicate (64 - n) false), take-add (64 * i) n (drop at old));
      behind = cc (drop_at (prefix ++ field 64 x) rest (64 * j) whole, drop-drop 64 (64 * i) bits, is.behind, drop-drop 64 (64 * i) old);
    }
