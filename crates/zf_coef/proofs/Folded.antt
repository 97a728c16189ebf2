-- Sixteen digits that become planes, and planes that become sixteen digits, by way of rows that lie folded in eight words.
use Rattle.std.proofs.Common.{rules, ◌≡◌, ◌∙◌, ℕ, ◌+◌, ◌-◌, ◌*◌, ◌/◌, ◌%◌, ◌^◌, ◌<◌, ◌≤◌, ◌≢◌, ⊎_elim, List, length, get_or, arith, max}
use Rattle.std.{specs.Int.{bit_at}, specs.Int.RustNames.{bit_or}, proofs.lemmas.Bool.{cases_lt}}
use Rattle.std.{proofs.lemmas.List.{get_or_past, length-map}, proofs.lemmas.Nat.Bits.{bit_at_or, bit_at-zero}}
use Rattle.zf_coef.specs.Turned.{bit_of, IsFoldedTurned}
use Rattle.zf_coef.proofs.{Halves.{word_of-past, no_word}, Putting.{none_changed}}
use Rattle.zf_coef.specs.Groups.{word_of, HoldsSome, HoldsFrom, HoldsFolded, IsFoldOf, AreHalf}
use Rattle.zf_coef.proofs.ShiftedBits.{bit_at-shr, bit_at-mod_pow, bit_at-mod_above, bit_at-mod, bit_at-shl_low, bit_at-shl_high}

-- ---- planes of folded rows

-- eight planes more
pub more_folded : (eight number from place : ℕ) (words part : List ℕ) (old new : List (List ℕ)) → eight < 4 → place ≡ eight % 2 * 32 + eight / 2 * 16 → length new ≡ length old
    → HoldsFolded number from (8 * eight) words old
    → ((j : ℕ) → j < 8 → get_or part j 0 ≡ get_or words j 0 / 2 ^ place % 2 ^ 16)
    → HoldsFrom 8 number (from + 8 * eight) part old new
    → HoldsFolded number from (8 * (eight + 1)) words new
more_folded eight number from place words part old new few is long before cut put =
    let fresh : (k : ℕ) → 8 * eight ≤ k → k < 8 * (eight + 1) → from + k < length new
    → word_of new number (from + k) ≡ get_or words (k % 16 % 8) 0 / 2 ^ place % 2 ^ 16 =
    λ k low high within.
    let at : from + 8 * eight + (k - 8 * eight) ≡ from + k = omega arith in
    let row : k - 8 * eight ≡ k % 16 % 8 = omega arith in
    cc (put.inside (k - 8 * eight) (omega arith) (omega arith), cut (k - 8 * eight) (omega arith)) in
    let kept : (k : ℕ) → k < 8 * eight → word_of new number (from + k) ≡ word_of old number (from + k) =
    λ k h. put.below (from + k) (omega arith) in
    record {
      inside = λ k r h within small. ⊎_elim
          (λ (earlier : k < 8 * eight). rw (kept k earlier) (before.inside k r earlier (omega arith) small))
          (λ (later : 8 * eight ≤ k).
          let bit : place + r ≡ k % 16 / 8 * 32 + (k - k % 16 + r) = omega arith in
          let word = get_or words (k % 16 % 8) 0 in
          cc (fresh k later h within, bit_at-mod_pow (word / 2 ^ place) 16 r small, bit_at-shr word place r))
          (cases_lt k (8 * eight));
      outside = λ k r h within large. ⊎_elim
          (λ (earlier : k < 8 * eight). rw (kept k earlier) (before.outside k r earlier (omega arith) large))
          (λ (later : 8 * eight ≤ k).
          rw (fresh k later h within) (bit_at-mod_above (get_or words (k % 16 % 8) 0 / 2 ^ place) 16 r large))
          (cases_lt k (8 * eight));
    }

-- there are no eight planes more
pub no_more_folded : (eight number from : ℕ) (words : List ℕ) (planes : List (List ℕ)) → length planes ≤ from + 8 * eight
    → HoldsFolded number from (8 * eight) words planes → HoldsFolded number from (8 * (eight + 1)) words planes
no_more_folded eight number from words planes past before = search rules

pub none_folded : (number from : ℕ) (words : List ℕ) (planes : List (List ℕ)) → HoldsFolded number from (8 * 0) words planes
none_folded number from words planes = record { inside = λ k r h within small. absurd (omega arith); outside = λ k r h within large. absurd (omega arith) }

pub all_folded : (eight number from : ℕ) (words : List ℕ) (planes : List (List ℕ)) → 4 ≤ eight → HoldsFolded number from (8 * eight) words planes → HoldsFolded number from 32 words planes
all_folded eight number from words planes all holds = search rules

-- digits that are folded and turned are their planes
pub planes_of_folded : (number from : ℕ) (digits fold turned : List ℕ) (planes : List (List ℕ)) → length digits ≡ 16
    → ((r i : ℕ) → r < 8 → i < 64 → bit_of fold r i ≡ bit_of digits (i / 32 * 8 + r) (from + i % 32))
    → IsFoldedTurned fold turned → HoldsFolded number from 32 turned planes → HoldsSome 32 number from digits planes
unfolding IsFoldedTurned HoldsSome
planes_of_folded number from digits fold turned planes long cut turn holds k r lower upper within small =
    let i = k - from in
    let at : from + i ≡ k = omega arith in
    let q = i - i % 16 + r in
    ⊎_elim
    (λ (inside : r < 16).
    let row : q % 16 ≡ r = omega arith in
    let place : q - q % 16 + i % 16 ≡ i = omega arith in
    let rank : (r / 8 * 32 + i) / 32 * 8 + r % 8 ≡ r = omega arith in
    let digit : from + (r / 8 * 32 + i) % 32 ≡ k = omega arith in
    let turned = turn (i % 16) q (omega arith) (omega arith) in
    let there = cut (r % 8) (r / 8 * 32 + i) (omega arith) (omega arith) in
    cc (holds.inside i r (omega arith) (omega arith) inside))
    (search (rules, bit_at-zero, get_or_past))
    (cases_lt r 16)

-- ---- folded rows of planes

-- how many eights of planes come before the one that bit i of a word is of
abbrev pub eight_of : ℕ → ℕ
eight_of i = i / 32 + i / 16 % 2 * 2

-- the words have the bits of the first eights of planes from `from` on, and no others
pub record HasEights (number from eights : ℕ) (planes : List (List ℕ)) (words : List ℕ) : Type 0 where
  pub inside : (j i : ℕ) → j < 8 → i < 64 → eight_of i < eights → bit_of words j i ≡ bit_at (word_of planes number (from + 8 * eight_of i + j)) (i % 16)
  pub others : (j i : ℕ) → j < 8 → i < 64 → eights ≤ eight_of i → bit_of words j i ≡ 0

pub no_eights : (number from : ℕ) (planes : List (List ℕ)) (words : List ℕ) → ((j : ℕ) → j < 8 → get_or words j 0 ≡ 0) → HasEights number from 0 planes words
no_eights number from planes words zeros = search (rules, bit_at-zero)

pub more_eights : (number from eights place : ℕ) (planes : List (List ℕ)) (tile old new : List ℕ) → eights < 4 → place ≡ eights % 2 * 32 + eights / 2 * 16
    → HasEights number from eights planes old
    → ((j : ℕ) → j < 8 → get_or tile j 0 ≡ word_of planes number (from + 8 * eights + j))
    → ((j : ℕ) → j < 8 → get_or new j 0 ≡ bit_or (get_or old j 0) (get_or tile j 0 % 2 ^ 16 * 2 ^ place % 2 ^ 64))
    → HasEights number from (eights + 1) planes new
more_eights number from eights place planes tile old new few is before taken put =
    let part = λ (j : ℕ). get_or tile j 0 % 2 ^ 16 in
    let more = λ (j : ℕ). part j * 2 ^ place % 2 ^ 64 in
    let bit : (j i : ℕ) → j < 8 → bit_of new j i ≡ max (bit_of old j i) (bit_at (more j) i) =
    λ j i a. rw (put j a) (bit_at_or (get_or old j 0) (more j) i) in
    let away : (j i : ℕ) → i < 64 → eight_of i ≢ eights → bit_at (more j) i ≡ 0 =
    λ j i b apart. bit_at-mod (part j * 2 ^ place) i b ∙ ⊎_elim
    (λ (low : i < place). bit_at-shl_low (part j) place i low)
    (λ (high : place ≤ i). bit_at-shl_high (part j) place i high
    ∙ bit_at-mod_above (get_or tile j 0) 16 (i - place) (omega arith))
    (cases_lt i place) in
    record {
      inside = λ j i a b h. ⊎_elim
          (λ (earlier : eight_of i < eights).
          omega (arith, bit j i a, away j i b (λ e. absurd (omega arith)), before.inside j i a b earlier))
          (λ (last : eights ≤ eight_of i).
          let same : eight_of i ≡ eights = omega arith in
          let at : i - place ≡ i % 16 = omega arith in
          let cut = bit_at-mod_pow (get_or tile j 0) 16 (i - place) (omega arith) in
          let high = bit_at-shl_high (part j) place i (omega arith) in
          let here : bit_at (more j) i ≡ bit_at (word_of planes number (from + 8 * eight_of i + j)) (i % 16) =
          cc (bit_at-mod (part j * 2 ^ place) i b, taken j a) in
          omega (arith, bit j i a, before.others j i a b last, here))
          (cases_lt (eight_of i) eights);
      others = λ j i a b h.
          omega (arith, bit j i a, before.others j i a b (omega arith), away j i b (λ e. absurd (omega arith)));
    }

-- there are no eight planes more
pub past_eights : (number from eights : ℕ) (planes : List (List ℕ)) (words : List ℕ) → length planes ≤ from + 8 * eights
    → HasEights number from eights planes words → HasEights number from (eights + 1) planes words
past_eights number from eights planes words past before = search (rules, bit_at-zero, word_of-past, cases_lt)

pub all_eights : (number from eights : ℕ) (planes : List (List ℕ)) (words : List ℕ) → 4 ≤ eights → HasEights number from eights planes words → IsFoldOf number from planes words
unfolding IsFoldOf
all_eights number from eights planes words all has k r a b = search rules

-- turned, they are half of the digits
pub fold_turned : (number from : ℕ) (planes : List (List ℕ)) (words turned : List ℕ)
    → IsFoldOf number from planes words → IsFoldedTurned words turned → AreHalf 8 number from planes turned
unfolding IsFoldOf IsFoldedTurned AreHalf
fold_turned number from planes words turned fold turn j i less few =
    let first = turn j i (omega arith) few ∙ fold i j few (omega arith) in
    let second = turn (8 + j) i (omega arith) few ∙ fold i (8 + j) few (omega arith) in
    let row : j % 8 ≡ j = omega arith in
    let place : j / 8 * 32 + i ≡ i = omega arith in
    let row_above : (8 + j) % 8 ≡ j = omega arith in
    let place_above : (8 + j) / 8 * 32 + i ≡ 32 + i = omega arith in
    (cc, cc)

-- rows that lie folded, from their begin to their end
pub ruleset of_folded = (length-map, no_word, none_changed, none_folded, all_folded, no_eights, all_eights)
