-- Bits that were looked at and are not yet passed.
use Rattle.std.proofs.Common.{rules, ◌≡◌, ℕ, suc, zero, ◌+◌, ◌-◌, ◌/◌, ◌%◌, ◌^◌, ◌<◌, ◌≤◌, ⊎_elim, min, Bool, true, false, eqb, List, [], ◌∷◌, ◌++◌, length, take, drop, replicate, get_or, get_or-take, ext_get_or, refl, sym, ap, ◌∙◌, arith}
use Rattle.std.{specs.Int.{bit_at, w64, trailing_zeros}, specs.Int.Count.{trailing_of_zero}}
use Rattle.std.{proofs.lemmas.Bool.{cases_lt}, proofs.lemmas.Nat.{shr-shr, shr_le}}
use Rattle.std.proofs.lemmas.Nat.Bits.{bit_at-zero, bit_at-trailing_zeros}
use Rattle.std.proofs.lemmas.List.{length-take, length-replicate, get_or-replicate, take-append-drop, take-take, drop-take, drop-drop}
use Rattle.zf_spec.{specs.Numbers.{is_odd, field}, proofs.Fields.{length-field, get_or-field}}
use Rattle.zf_bits.{specs.Reader.{Reader, rest, Reads}}
use Rattle.zf_planes.specs.Decoding.{IsWindow, run_ahead, run_bits, tail_ahead, tail_bits, Takes}
use Rattle.zf_planes.{proofs.Digits.{split_prefix}, proofs.Doubled.{word_prefix, word_behind}, proofs.Steps.{run_zero, run_one, run_stands, tail_run}}

-- ---- the next bits as a number

-- v has the next bits, as far as there are 64
abbrev pub IsPeeked : ℕ → List Bool → Type 0
IsPeeked v s = take (length (take 64 s)) (field 64 v) ≡ take 64 s

-- as many of them as there are
pub peeked : (s : List Bool) (v count : ℕ) → IsPeeked v s → count ≤ 64 → count ≤ length s → field count v ≡ take count s
peeked s v count e small within =
    cc (
      word_prefix 64 count v small,
      take-take count (length (take 64 s)) (field 64 v) (omega (arith, length-take 64 s)),
      take-take count 64 s small,
    )

pub window_long : (s : List Bool) (v count : ℕ) → field count v ≡ take count s → count ≤ length s
window_long s v count e = omega (arith, ap length e, length-field count v, length-take count s)

-- the first n of them
pub window_prefix : (s : List Bool) (v count n : ℕ) → field count v ≡ take count s → n ≤ count → field n v ≡ take n s
window_prefix s v count n e within =
    sym (word_prefix count n v within) ∙ ap (take n) e ∙ take-take n count s within

-- those behind the first n
pub window_behind : (s : List Bool) (v count n : ℕ) → field count v ≡ take count s → n ≤ count → field (count - n) (v / 2 ^ n) ≡ take (count - n) (drop n s)
window_behind s v count n e within =
    let parts : n + (count - n) ≡ count = omega arith in
    cc (word_behind count n v within, drop-take n (count - n) s)

pub window_passed : (s : List Bool) (left v count n : ℕ) → IsWindow left v count s → 0 < n → n ≤ count → IsWindow (left - n) (v / 2 ^ (n - 1) / 2) (count - n) (drop n s)
window_passed s left v count n window some within =
    let last : n - 1 + 1 ≡ n = omega arith in
    record {
      bits = ap (field (count - n)) (shr-shr v (n - 1) 1 ∙ ap (λ k. v / 2 ^ k) last) ∙ window_behind s v count n window.bits within;
      within = omega (arith, window.within);
      small = omega (arith, window.small);
    }

bit_ahead : (s : List Bool) (v count j : ℕ) → field count v ≡ take count s → j < count → get_or s j false ≡ is_odd (v / 2 ^ j)
bit_ahead s v count j e below = sym (get_or-take count s j false below) ∙ ap (λ (xs : List Bool). get_or xs j false) (sym e) ∙ get_or-field count v j false below

-- ---- its zeros

zero_below : (v j : ℕ) → v < 2 ^ 64 → j < trailing_zeros w64 v → bit_at v j ≡ 0
zero_below zero j fits below = bit_at-zero j
zero_below (suc v) j fits below = (bit_at-trailing_zeros w64 (suc v) (omega arith) fits).2 j below

-- as many zeros come as the number has below its lowest one
pub zeros_ahead : (s : List Bool) (v count k : ℕ) → field count v ≡ take count s → v < 2 ^ 64 → k ≤ trailing_zeros w64 v → k ≤ count → s ≡ replicate k false ++ drop k s
zeros_ahead s v count k e fits below within =
    let there = window_long s v count e in
    sym (take-append-drop k s) ∙ ap (λ (xs : List Bool). xs ++ drop k s)
    (ext_get_or false (take k s) (replicate k false) (omega (arith, length-take k s, length-replicate k false))
    (search (rules, length-take, get_or-take, bit_ahead, zero_below, get_or-replicate)))

one_at : (v : ℕ) → v < 2 ^ 64 → trailing_zeros w64 v < 64 → bit_at v (trailing_zeros w64 v) ≡ 1
one_at zero fits some = let none = trailing_of_zero 64 in absurd (omega arith)
one_at (suc v) fits some = (bit_at-trailing_zeros w64 (suc v) (omega arith) fits).1

-- and then a one
pub one_ahead : (s : List Bool) (v count k : ℕ) → field count v ≡ take count s → v < 2 ^ 64 → k ≡ trailing_zeros w64 v → k < count → count ≤ 64 → s ≡ replicate k false ++ true ∷ drop (k + 1) s
one_ahead s v count k e fits is within small = search (rules, split_prefix, window_long, bit_ahead, zero_below, one_at)

-- ---- its first bit

pub first_bit : (s : List Bool) (v count : ℕ) (b : Bool) → field count v ≡ take count s → 0 < count → is_odd v ≡ b → s ≡ b ∷ drop 1 s
first_bit [] v count b e some is = let there = window_long [] v count e in absurd (omega arith)
first_bit (c ∷ s) v zero b e some is = absurd (omega arith)
first_bit (c ∷ s) v (suc count) b e some is = ap (λ d. d ∷ s) (sym (ap (λ (xs : List Bool). get_or xs 0 false) e) ∙ is)

-- ---- a run

pub replicate_both : (z k : ℕ) (ds : List Bool) → replicate z false ++ (replicate k false ++ ds) ≡ replicate (z + k) false ++ ds
replicate_both zero k ds = let e : zero + k ≡ k = omega arith in rw e refl
replicate_both (suc z) k ds = let e : suc z + k ≡ suc (z + k) = omega arith in rw e (ap (λ (xs : List Bool). false ∷ xs) (replicate_both z k ds))

-- k zeros of a run
pub run_zeros : (k left m : ℕ) (s t : List Bool) → k ≤ left → k < m → s ≡ replicate k false ++ t
    → (run_bits left m s ≡ k + run_bits (left - k) (m - k) t) × (run_ahead left m s ≡ replicate k false ++ run_ahead (left - k) (m - k) t)
run_zeros zero left m s t within below e = search rules
run_zeros (suc k) left m s t within below e =
    let one = run_zero left m s (replicate k false ++ t) (omega arith) (omega arith) e in
    let more = run_zeros k (left - 1) (m - 1) (replicate k false ++ t) t (omega arith) (omega arith) refl in
    search rules

-- what a run makes of so many zeros and a one
pub zeros_and_one : (k left m : ℕ) (s : List Bool) → k < left → k + 1 < m → s ≡ replicate k false ++ true ∷ drop (k + 1) s
    → (run_bits left m s ≡ k + 1 + tail_bits (left - k - 1) (m - k - 1) (drop (k + 1) s)) × (run_ahead left m s ≡ replicate k false ++ true ∷ tail_ahead (left - k - 1) (m - k - 1) (drop (k + 1) s))
zeros_and_one k left m s within below split =
    let t = drop (k + 1) s in
    let zeros = run_zeros k left m s (true ∷ t) (omega arith) (omega arith) split in
    let one = run_one (left - k) (m - k) (true ∷ t) t (omega arith) (omega arith) refl in
    (omega (arith, zeros.0, one.0), zeros.1 ∙ ap (λ (ds : List Bool). replicate k false ++ ds) one.1)

-- and of zeros up to the last digit, whose one has no bit
pub zeros_to_last : (k left m : ℕ) (s : List Bool) → k ≤ left → k + 1 ≡ m → s ≡ replicate k false ++ drop k s
    → (run_bits left m s ≡ k + tail_bits (left - k) (m - k - 1) (drop k s)) × (run_ahead left m s ≡ replicate k false ++ true ∷ tail_ahead (left - k) (m - k - 1) (drop k s))
zeros_to_last k left m s within last split =
    let zeros = run_zeros k left m s (drop k s) within (omega arith) split in search (rules, run_stands)

-- ---- a group bit and a run that lie among the bits that were looked at

-- z zeros come before the one of a run, and n bits are read
pub record IsGroup (left most z n : ℕ) (s : List Bool) : Type 0 where
  pub bits : tail_bits left most s ≡ n + tail_bits (left - n) (most - z - 1) (drop n s)
  pub digits : tail_ahead left most s ≡ replicate z false ++ true ∷ tail_ahead (left - n) (most - z - 1) (drop n s)

group_of_run : (left most z n : ℕ) (s : List Bool) → 0 < left → 0 < most → s ≡ true ∷ drop 1 s
    → (run_bits (left - 1) most (drop 1 s) ≡ n + tail_bits (left - 1 - n) (most - z - 1) (drop n (drop 1 s)))
    × (run_ahead (left - 1) most (drop 1 s) ≡ replicate z false ++ true ∷ tail_ahead (left - 1 - n) (most - z - 1) (drop n (drop 1 s)))
    → IsGroup left most z (n + 1) s
group_of_run left most z n s some digit one run =
    let group = tail_run left most s (drop 1 s) some digit one in search (rules, drop-drop)

pub group_ahead : (s : List Bool) (left v count most z n : ℕ) → IsWindow left v count s → v < 2 ^ 64 → v % 2 ≡ 1 → 0 < most → 0 < count
    → z ≡ min (trailing_zeros w64 (v / 2)) (most - 1) → n ≡ min (z + 2) most → n ≤ count → IsGroup left most z n s
group_ahead s left v count most z n window fits odd some there zeros all within =
    let one = first_bit s v count true window.bits there (ap (λ b. eqb b 1) odd) in
    let t = drop 1 s in
    let ahead : field (count - 1) (v / 2) ≡ take (count - 1) t = window_behind s v count 1 window.bits (omega arith) in
    let small : v / 2 < 2 ^ 64 = omega (arith, shr_le v 1) in
    ⊎_elim
    (λ (early : z + 1 < most).
    let n' : n ≡ z + 1 + 1 = omega arith in
    let is : z ≡ trailing_zeros w64 (v / 2) = omega arith in
    let run = zeros_and_one z (left - 1) most t (omega arith) early (one_ahead t (v / 2) (count - 1) z ahead small is (omega arith) (omega (arith, window.small))) in
    let spent : left - 1 - z - 1 ≡ left - 1 - (z + 1) = omega arith in
    rw n' (group_of_run left most z (z + 1) s (omega arith) some one (rw spent at run)))
    (λ (late : most ≤ z + 1).
    let n' : n ≡ z + 1 = omega arith in
    let run = zeros_to_last z (left - 1) most t (omega arith) (omega arith) (zeros_ahead t (v / 2) (count - 1) z ahead small (omega arith) (omega arith)) in
    rw n' (group_of_run left most z z s (omega arith) some one run))
    (cases_lt (z + 1) most)

-- ---- the reader

pub Takes-skip : {now new : Reader} (left n : ℕ) → n ≤ left → n ≤ length (rest now) → Reads now new (take n (rest now)) → Takes now new left (left - n) n
Takes-skip {now} {new} left n within there reads = search (rules, length-take)
