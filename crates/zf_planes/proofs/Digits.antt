-- The digits of a plane as bits of its words, and its ones by the zeros of a word.
use Rattle.std.proofs.Common.{rules, ◌≡◌, ℕ, zero, suc, ◌+◌, ◌-◌, ◌*◌, ◌/◌, ◌%◌, ◌^◌, ◌<◌, ◌≤◌, ⊎_elim, Bool, true, false, eqb, List, [], ◌∷◌, ◌++◌, length, take, drop, replicate, get_or, get_or-take, get_or-drop, ext_get_or, length-take, length-drop, pow_pos, pow-suc, sym, ap, ◌∙◌, arith}
use Rattle.std.{specs.Int.{bit_at, w64, trailing_zeros, leading_zeros}, specs.Int.Bits.{bit_and}}
use Rattle.std.proofs.lemmas.Bool.{cases_lt, false≢true}
use Rattle.std.proofs.lemmas.Nat.{shr-shr, shr_le, leading_top, div-add-mod', and_mask}
use Rattle.std.proofs.lemmas.Nat.Bits.{ones_shr, bit_at-zero, bit_at-trailing_zeros, bit_at_above, bit_at_cat_low, bit_at_cat_high}
use Rattle.std.proofs.lemmas.List.{get_or_past, take-take, drop-take}
use Rattle.zf_spec.{specs.Numbers.{is_odd, field, word_bits}, specs.Planes.{has_one, reach}}
use Rattle.zf_spec.{specs.HeldPlanes.{digits_held}, proofs.Fields.{length-field, get_or-field}}
use Rattle.zf_spec.{proofs.WordBits.{get_or-word_bits}, proofs.HeldPlanes.{length-digits_held}}
use Rattle.zf_spec.proofs.Reach.{none_from_each, reach_only}

-- ---- a digit is a bit of one of the words

pub get_or-digits_held : (size r : ℕ) (ws : List ℕ) → size ≤ 64 * length ws → r < size → get_or (digits_held size ws) r false ≡ is_odd (get_or ws (r / 64) 0 / 2 ^ (r % 64))
unfolding digits_held
get_or-digits_held size r ws long below = get_or-take size (word_bits ws) r false below ∙ get_or-word_bits ws r (omega arith)

-- the j-th digit behind rank `at`, in the same word w
pub digit_in_word : (size at j w : ℕ) (ws : List ℕ) → w ≡ get_or ws (at / 64) 0 → size ≤ 64 * length ws → at % 64 + j < 64 → at + j < size
    → get_or (digits_held size ws) (at + j) false ≡ is_odd (w / 2 ^ (at % 64) / 2 ^ j)
digit_in_word size at j w ws is long same below = search (rules, get_or-digits_held, shr-shr)

-- digits that lie in one word, as a field of it
pub field_in_word : (size at n w : ℕ) (ws : List ℕ) → w ≡ get_or ws (at / 64) 0 → size ≤ 64 * length ws → at % 64 + n ≤ 64 → at + n ≤ size
    → field n (w / 2 ^ (at % 64)) ≡ take n (drop at (digits_held size ws))
field_in_word size at n w ws is long same within =
    let ds = digits_held size ws in
    let v = w / 2 ^ (at % 64) in
    let all = length-digits_held size ws long in
    let count : length (take n (drop at ds)) ≡ n = omega (arith, length-take n (drop at ds), length-drop at ds) in
    ext_get_or false (field n v) (take n (drop at ds)) (length-field n v ∙ sym count)
    (search (rules, length-field, get_or-field, digit_in_word, get_or-drop, get_or-take))

-- a mask leaves the n lowest bits
pub masked : (v n : ℕ) → n ≤ 64 → bit_and v (18446744073709551615 / 2 ^ (64 - n)) ≡ v % 2 ^ n
masked v n small =
    let left : 64 - (64 - n) ≡ n = omega arith in
    ap (bit_and v) (ones_shr 64 (64 - n) (omega arith) ∙ ap (λ k. 2 ^ k - 1) left) ∙ and_mask v n

-- the digits of a part of a plane
pub held_part : (size n m : ℕ) (ws : List ℕ) → n ≤ m → m ≤ size → drop n (digits_held m ws) ≡ take (m - n) (drop n (digits_held size ws))
unfolding digits_held
held_part size n m ws order within =
    let ds = take size (word_bits ws) in
    let place : n + (m - n) ≡ m = omega arith in
    ap (drop n) (sym (take-take m size (word_bits ws) within) ∙ ap (λ k. take k ds) (sym place)) ∙ drop-take n (m - n) ds

pub held_prefix : (size n : ℕ) (ws : List ℕ) → n ≤ size → drop 0 (digits_held n ws) ≡ take n (digits_held size ws)
unfolding digits_held
held_prefix size n ws within = sym (take-take n size (word_bits ws) within)

pub past_size : (size r : ℕ) (ws : List ℕ) → size ≤ 64 * length ws → size ≤ r → get_or (digits_held size ws) r false ≡ false
past_size size r ws long past = get_or_past (digits_held size ws) r false (omega (arith, length-digits_held size ws long))

-- ---- the next one

-- no digit from rank n on and below k is one
abbrev pub AreZeros : List Bool → ℕ → ℕ → Type 0
AreZeros ds n k = (j : ℕ) → n ≤ j → j < k → get_or ds j false ≡ false

-- m digits from `at` on are zero as bits of their word w
zeros_by_bits : (size at m w : ℕ) (ws : List ℕ) → w ≡ get_or ws (at / 64) 0 → size ≤ 64 * length ws → at % 64 + m ≤ 64
    → ((i : ℕ) → i < m → bit_at (w / 2 ^ (at % 64)) i ≡ 0) → AreZeros (digits_held size ws) at (at + m)
zeros_by_bits size at m w ws is long same bits j from below =
    ⊎_elim
    (λ (inside : j < size).
    let place : at + (j - at) ≡ j = omega arith in
    cc (digit_in_word size at (j - at) w ws is long (omega arith) (omega arith), bits (j - at) (omega arith)))
    (λ (past : size ≤ j). past_size size j ws long past)
    (cases_lt j size)

pub AreZeros-join : (ds : List Bool) (n k m : ℕ) → AreZeros ds n k → AreZeros ds k m → AreZeros ds n m
AreZeros-join ds n k m prefix back j from below = ⊎_elim (λ (early : j < k). prefix j from early) (λ (late : k ≤ j). back j late below) (cases_lt j k)

-- the rest of a word is zero
pub zeros_of_word : (size at w : ℕ) (ws : List ℕ) → w ≡ get_or ws (at / 64) 0 → size ≤ 64 * length ws → w / 2 ^ (at % 64) ≡ 0 → AreZeros (digits_held size ws) at (at + (64 - at % 64))
zeros_of_word size at w ws is long none = zeros_by_bits size at (64 - at % 64) w ws is long (omega arith) (λ i below. ap (λ v. bit_at v i) none ∙ bit_at-zero i)

-- where one is to come, the ranks that are known to be zero are within the plane
pub within_plane : (ds : List Bool) (n k : ℕ) → has_one (drop n ds) ≡ true → AreZeros ds n k → k < length ds
within_plane ds n k one zeros = search (rules, none_from_each, get_or-drop, get_or_past, cases_lt, false≢true)

pub split_prefix : (xs : List Bool) (m : ℕ) → m < length xs → ((i : ℕ) → i < m → get_or xs i false ≡ false) → get_or xs m false ≡ true → xs ≡ replicate m false ++ true ∷ drop (m + 1) xs
split_prefix [] m within zeros one = absurd (omega arith)
split_prefix (x ∷ xs) zero within zeros one = ap (λ b. b ∷ xs) one
split_prefix (x ∷ xs) (suc m) within zeros one =
    let e : suc m + 1 ≡ suc (m + 1) = omega arith in
    rw e (cc (zeros 0 (omega arith), split_prefix xs m (omega arith) (λ i below. zeros (suc i) (omega arith)) one))

-- rank k has the next one from rank n on
pub record IsNextOne (ds : List Bool) (n k : ℕ) : Type 0 where
  pub within : k < length ds
  pub zeros : AreZeros ds n k
  pub one : get_or ds k false ≡ true

-- from rank n on come zeros, and then the next one
pub split_at_next : (ds : List Bool) (n m k : ℕ) → n + m ≡ k → IsNextOne ds n k → drop n ds ≡ replicate m false ++ true ∷ drop (m + 1) (drop n ds)
split_at_next ds n m k place next = search (rules, split_prefix, length-drop, get_or-drop)

-- the ranks up to `at` are known to be zero, and what is left of the word has a one
pub next_one : (size n at w : ℕ) (ws : List ℕ) → w ≡ get_or ws (at / 64) 0 → size ≤ 64 * length ws → w < 2 ^ 64 → has_one (drop n (digits_held size ws)) ≡ true → AreZeros (digits_held size ws) n at
    → 0 < w / 2 ^ (at % 64) → IsNextOne (digits_held size ws) n (at + trailing_zeros w64 (w / 2 ^ (at % 64)))
next_one size n at w ws is long fits one zeros some =
    let ds = digits_held size ws in
    let rest = w / 2 ^ (at % 64) in
    let z = trailing_zeros w64 rest in
    let small : rest < 2 ^ 64 = omega (arith, shr_le w (at % 64)) in
    let lowest = bit_at-trailing_zeros w64 rest some small in
    let in_word : at % 64 + z < 64 = bit_below w (at % 64) z fits lowest.1 in
    let all_zeros = AreZeros-join ds n at (at + z) zeros (zeros_by_bits size at z w ws is long (omega arith) lowest.2) in
    let within = within_plane ds n (at + z) one all_zeros in
    record {
      within = within;
      zeros = all_zeros;
      one = digit_in_word size at z w ws is long in_word (omega (arith, within, length-digits_held size ws long)) ∙ ap (λ b. eqb b 1) lowest.1;
    }
  where
    bit_below : (v k z : ℕ) → v < 2 ^ 64 → bit_at (v / 2 ^ k) z ≡ 1 → k + z < 64
    bit_below v k z fits set =
        ⊎_elim
        (λ (below : k + z < 64). below)
        (λ (above : 64 ≤ k + z).
        let none : bit_at v (k + z) ≡ 0 = bit_at_above v 64 (k + z) fits above in
        let same : bit_at (v / 2 ^ k) z ≡ bit_at v (k + z) = ap (λ u. u % 2) (shr-shr v k z) in
        absurd (omega arith))
        (cases_lt (k + z) 64)

-- ---- the last one

-- a word that is shifted up keeps the bits that stay in it
shl_bit : (v s i : ℕ) → i + s < 64 → bit_at (v * 2 ^ s % 2 ^ 64) (i + s) ≡ bit_at v i
shl_bit v s i within =
    let n = v * 2 ^ s in
    let whole : n ≡ n + 0 = omega arith in
    let place : i + s - s ≡ i = omega arith in
    cc (
      bit_at_cat_low (n / 2 ^ 64) 64 (n % 2 ^ 64) (i + s) within,
      div-add-mod' n (2 ^ 64),
      bit_at_cat_high v s 0 (i + s) (pow_pos s) (omega arith),
    )

shl_low : (v s i : ℕ) → i < s → s < 64 → bit_at (v * 2 ^ s % 2 ^ 64) i ≡ 0
shl_low v s i low small =
    let n = v * 2 ^ s in
    let whole : n ≡ n + 0 = omega arith in
    cc (
      bit_at_cat_low (n / 2 ^ 64) 64 (n % 2 ^ 64) i (omega arith),
      div-add-mod' n (2 ^ 64),
      bit_at_cat_low v s 0 i low,
      bit_at-zero i,
    )

-- the digit of a rank whose word is w, after that word is shifted up so that bit `top` is the highest
digit_shifted : (size top r w : ℕ) (ws : List ℕ) → w ≡ get_or ws (top / 64) 0 → size ≤ 64 * length ws → top / 64 ≡ r / 64 → r ≤ top → r < size
    → get_or (digits_held size ws) r false ≡ eqb (bit_at (w * 2 ^ (63 - top % 64) % 2 ^ 64) (r % 64 + (63 - top % 64))) 1
digit_shifted size top r w ws is long same low below = search (rules, get_or-digits_held, shl_bit)

-- no digit from rank n on is one
abbrev pub IsZeroFrom : List Bool → ℕ → Type 0
IsZeroFrom ds n = (j : ℕ) → n ≤ j → get_or ds j false ≡ false

-- nothing is known of the ranks below `end`, and those of its last word are zero too
pub none_in_word : (size end w : ℕ) (ws : List ℕ) → 0 < end → end ≤ size → w ≡ get_or ws ((end - 1) / 64) 0 → size ≤ 64 * length ws → IsZeroFrom (digits_held size ws) end
    → w * 2 ^ (63 - (end - 1) % 64) % 2 ^ 64 ≡ 0 → IsZeroFrom (digits_held size ws) (end - 1 - (end - 1) % 64)
none_in_word size end w ws some within is long zeros none j from =
    ⊎_elim
    (λ (below : j < end).
    cc (
      digit_shifted size (end - 1) j w ws is long (omega arith) (omega arith) (omega arith),
      bit_at-zero (j % 64 + (63 - (end - 1) % 64)),
    ))
    (λ (above : end ≤ j). zeros j above)
    (cases_lt j end)

-- the highest bit of a number that is not 0
highest : (a j : ℕ) → 2 ^ j ≤ a → a < 2 ^ suc j → bit_at a j ≡ 1
highest a j low high = search (rules, bit_at_cat_high, pow-suc)

pub reach_in_word : (size end w : ℕ) (ws : List ℕ) → 0 < end → end ≤ size → w ≡ get_or ws ((end - 1) / 64) 0 → size ≤ 64 * length ws → IsZeroFrom (digits_held size ws) end
    → 0 < w * 2 ^ (63 - (end - 1) % 64) % 2 ^ 64 → w * 2 ^ (63 - (end - 1) % 64) % 2 ^ 64 < 2 ^ 64
    → (leading_zeros w64 (w * 2 ^ (63 - (end - 1) % 64) % 2 ^ 64) ≤ end) × (end - leading_zeros w64 (w * 2 ^ (63 - (end - 1) % 64) % 2 ^ 64) ≡ reach (digits_held size ws))
reach_in_word size end w ws some within is long zeros one fits =
    let s = 63 - (end - 1) % 64 in
    let a = w * 2 ^ s % 2 ^ 64 in
    let c = leading_zeros w64 a in
    let top = leading_top 64 a one fits in
    let j = top.0 in
    let set : bit_at a j ≡ 1 = highest a j top.2 top.3 in
    let high : s ≤ j = ⊎_elim (λ (low : j < s). let none = shl_low w s j low (omega arith) in absurd (omega arith)) (λ (high : s ≤ j). high) (cases_lt j s) in (
      omega arith,
      reach_only (digits_held size ws) (end - c)
          (λ k from. ⊎_elim
          (λ (below : k < end).
          digit_shifted size (end - 1) k w ws is long (omega arith) (omega arith) (omega arith)
          ∙ ap (λ b. eqb b 1) (bit_at_above a (suc j) (k % 64 + s) top.3 (omega arith)))
          (λ (above : end ≤ k). zeros k above)
          (cases_lt k end))
          (λ k last.
          let place : k % 64 + s ≡ j = omega arith in
          cc (digit_shifted size (end - 1) k w ws is long (omega arith) (omega arith) (omega arith))),
    )

pub reach_none_from : (ds : List Bool) → IsZeroFrom ds 0 → 0 ≡ reach ds
reach_none_from ds zeros = reach_only ds 0 zeros (λ k e. absurd (omega arith))

-- what is known of a plane's end, word by word from the last
pub ruleset from_the_end = (past_size, none_in_word, reach_none_from)
