-- Tiles of digits that become planes, 32 or sixteen at a time, and planes that become halves of digits.
use Rattle.std.proofs.Common.{rules, ◌≡◌, ap, ◌∙◌, ℕ, ◌+◌, ◌-◌, ◌*◌, ◌/◌, ◌%◌, ◌<◌, ◌≤◌, ⊎_elim, List, [], length, get_or, replicate, arith}
use Rattle.std.{specs.Int.{bit_at}, proofs.lemmas.Bool.{cases_lt}, proofs.lemmas.Nat.Bits.{bit_at-zero}}
use Rattle.std.proofs.lemmas.List.{get_or-replicate, get_or_past, length-replicate, length-map}
use Rattle.zf_coef.{specs.Turned.{bit_of, IsTurned}, proofs.Putting.{both_kept}}
use Rattle.zf_coef.specs.Groups.{word_of, HoldsGroup, HoldsSome, IsOfGroup, AreHalf, HoldsFrom, IsMoved}
use Rattle.zf_coef.specs.Groups.{AreUnfolded, AreMoved, PutsGroup, PutsHalf, PutsNone, KeepsOthers}

-- ---- planes of tiles

-- what is known of places in tiles of n rows that stand side by side
pub record Tile (n : ℕ) : Type 0 where
  pub column : (r : ℕ) → r % n < n
  pub place : (r j : ℕ) → j < n → r < 64 → r - r % n + j < 64
  pub rank : (r j : ℕ) → j < n → r < 64 → (r - r % n + j) / n * n + r % n ≡ r
  pub row : (r j : ℕ) → j < n → r < 64 → (r - r % n + j) % n ≡ j

-- the turned tiles of 64 digits, which have so many digits of each, are as many of their planes
pub planes_of_tiles : (n number from : ℕ) (digits tiles turned : List ℕ) (old new : List (List ℕ)) → Tile n
    → ((r i : ℕ) → r < n → i < 64 → bit_of tiles r i ≡ bit_of digits (i / n * n + r) (from + i % n))
    → IsTurned n tiles turned → HoldsFrom n number from turned old new → HoldsSome n number from digits new
unfolding IsTurned HoldsSome
planes_of_tiles n number from digits tiles turned old new tile cut turn put k r lower upper within small =
    let j = k - from in
    let at : from + j ≡ k = omega arith in
    let less : j < n = omega arith in
    let digit = cut (r % n) (r - r % n + j) (tile.column r) (tile.place r j less small) in
    cc (at, put.inside j less (omega arith), turn j r less small, digit, tile.rank r j less small, tile.row r j less small)

-- ---- planes of halves

-- both halves
planes_of_both : (number : ℕ) (digits : List ℕ) (mid new : List (List ℕ)) → length new ≡ length mid → length new ≤ 64
    → HoldsSome 32 number 0 digits mid → HoldsSome 32 number 32 digits new
    → ((k : ℕ) → k < 32 → word_of new number k ≡ word_of mid number k) → HoldsGroup number digits new
unfolding HoldsSome HoldsGroup
planes_of_both number digits mid new long few lower upper kept k r within small = search (rules, cases_lt)

pub group_of_halves : (number : ℕ) (digits : List ℕ) (old mid new : List (List ℕ)) → length new ≡ length mid → length new ≤ 64
    → PutsHalf number 0 digits old mid → PutsHalf number 32 digits mid new → PutsGroup number digits old new
group_of_halves number digits old mid new long few low high = search (rules, planes_of_both, both_kept)

-- digits without a one in these planes have none to turn
planes_of_none : (number from : ℕ) (digits : List ℕ) (planes : List (List ℕ))
    → ((r k : ℕ) → from ≤ k → k < 64 → bit_of digits r k ≡ 0) → length planes ≤ 64
    → ((k : ℕ) → from ≤ k → k < length planes → word_of planes number k ≡ 0) → HoldsSome 32 number from digits planes
unfolding HoldsSome
planes_of_none number from digits planes none few zeros k r lower upper within small = search (rules, bit_at-zero)

pub half_of_none : (number from : ℕ) (digits : List ℕ) (old new : List (List ℕ))
    → ((r k : ℕ) → from ≤ k → k < 64 → bit_of digits r k ≡ 0) → length new ≤ 64 → PutsNone number from old new → PutsHalf number from digits old new
half_of_none number from digits old new none few put = search (rules, planes_of_none)

-- the first planes are enough where there are no others
pub planes_of_first : (n number : ℕ) (digits : List ℕ) (planes : List (List ℕ)) → length planes ≤ n → HoldsSome n number 0 digits planes → HoldsGroup number digits planes
unfolding HoldsSome HoldsGroup
planes_of_first n number digits planes few first k r within small = first k r (omega arith) (omega arith) within small

-- other digits with the same words
pub group_of_same : (number : ℕ) (digits whole : List ℕ) (planes : List (List ℕ)) → ((r : ℕ) → r < 64 → get_or whole r 0 ≡ get_or digits r 0)
    → HoldsGroup number whole planes → HoldsGroup number digits planes
unfolding HoldsGroup
group_of_same number digits whole planes same group k r within small = group k r within small ∙ ap (λ w. bit_at w k) (same r small)

-- planes past the end have no words
pub word_of-past : (planes : List (List ℕ)) (number k : ℕ) → length planes ≤ k → word_of planes number k ≡ 0
word_of-past planes number k past = ap (λ ws. get_or ws number 0) (get_or_past planes k [] past)

-- ---- halves of planes

pub half_of_planes : (number from : ℕ) (planes : List (List ℕ)) (words turned : List ℕ)
    → ((j : ℕ) → j < 32 → get_or words j 0 ≡ word_of planes number (from + j)) → IsTurned 32 words turned
    → AreHalf 32 number from planes turned
unfolding IsTurned AreHalf
half_of_planes number from planes words turned same turn j i less few =
    let first = turn j i less (omega arith) in
    let second = turn j (32 + i) less (omega arith) in
    let row : i % 32 ≡ i = omega arith in
    let rank : i - i % 32 + j ≡ j = omega arith in
    let row_above : (32 + i) % 32 ≡ i = omega arith in
    let rank_above : 32 + i - (32 + i) % 32 + j ≡ 32 + j = omega arith in
    let here = same i few in
    (cc, cc)

-- words that are there, and zeros past their end
pub half_of_few : (number from : ℕ) (planes : List (List ℕ)) (words turned : List ℕ) → length words ≡ 16
    → ((j : ℕ) → j < 16 → get_or words j 0 ≡ word_of planes number (from + j)) → ((k : ℕ) → from + 16 ≤ k → word_of planes number k ≡ 0)
    → IsTurned 32 words turned → AreHalf 32 number from planes turned
half_of_few number from planes words turned long same none turn = half_of_planes number from planes words turned (search (rules, get_or_past, cases_lt)) turn

-- of zeros each word is zero
pub no_word : (n j : ℕ) → let none : ℕ = 0 in get_or (replicate n none) j none ≡ none
no_word n j = ⊎_elim (λ (less : j < n). get_or-replicate n j 0 0 less) (λ (past : n ≤ j). get_or_past (replicate n 0) j 0 (let none : ℕ = 0 in omega (arith, length-replicate n none))) (cases_lt j n)

-- both halves of the digits
pub digits_of_halves : (n number : ℕ) (planes : List (List ℕ)) (low high digits : List ℕ)
    → length digits ≡ 2 * n
    → AreHalf n number 0 planes low → AreHalf n number 32 planes high → AreUnfolded n n low high digits
    → IsOfGroup number planes digits
unfolding IsOfGroup AreHalf
digits_of_halves n number planes low high digits long is_low is_high parts r k h small =
    let place : 32 ≤ k → 32 + (k - 32) ≡ k = λ h. omega arith in
    let row : n ≤ r → n + (r - n) ≡ r = λ h. omega arith in
    let first = is_low r k in
    let second = is_high r (k - 32) in
    let third = is_low (r - n) k in
    let fourth = is_high (r - n) (k - 32) in
    grind (arith, cases_lt)

-- a window of 32 planes has all the ones: the digits are those of words that are moved up
pub digits_in_window : (n number from : ℕ) (planes : List (List ℕ)) (words digits : List ℕ) → length digits ≡ 2 * n
    → ((k : ℕ) → k < from → word_of planes number k ≡ 0)
    → ((k : ℕ) → from + 32 ≤ k → word_of planes number k ≡ 0)
    → AreHalf n number from planes words → AreMoved n n from words digits → IsOfGroup number planes digits
unfolding IsOfGroup AreHalf
digits_in_window n number from planes words digits long below above held parts r k h small =
    let digit : (start word : ℕ) → ((i : ℕ) → i < 32 → bit_at word (start + i) ≡ bit_at (word_of planes number (from + i)) r)
    → IsMoved start from word (get_or digits r 0)
    → bit_of digits r k ≡ bit_at (word_of planes number k) r =
    λ start word here moved. ⊎_elim
    (λ (first : k < from). cc (moved.below k first, below k first, bit_at-zero r))
    (λ (later : from ≤ k). ⊎_elim
    (λ (inside : k - from < 32).
    let back : from + (k - from) ≡ k = omega arith in
    cc (moved.inside (k - from) inside, here (k - from) inside))
    (λ (past : 32 ≤ k - from). cc (moved.above k (omega arith) small, above k (omega arith), bit_at-zero r))
    (cases_lt (k - from) 32))
    (cases_lt k from) in
    ⊎_elim
    (λ (prefix : r < n). digit 0 (get_or words r 0)
    (λ i few. let start : 0 + i ≡ i = omega arith in cc (held r i prefix few).0) (parts.lower r prefix))
    (λ (behind : n ≤ r).
    let row : n + (r - n) ≡ r = omega arith in
    let less : r - n < n = omega arith in
    digit 32 (get_or words (r - n) 0) (λ i few. rw row at (held (r - n) i less few).1)
    (rw row at (parts.upper (r - n) less)))
    (cases_lt r n)

-- the first 32 planes are all
pub digits_of_half : (n number : ℕ) (planes : List (List ℕ)) (words digits : List ℕ) → length digits ≡ 2 * n → length planes ≤ 32
    → AreHalf n number 0 planes words → AreMoved n n 0 words digits → IsOfGroup number planes digits
digits_of_half n number planes words digits long few held parts =
    digits_in_window n number 0 planes words digits long (λ k h. absurd (omega arith)) (λ k past. word_of-past planes number k (omega arith)) held parts

-- the first of more digits
pub group_of_prefix : (number : ℕ) (planes : List (List ℕ)) (whole digits : List ℕ) → length digits ≤ length whole
    → ((r : ℕ) → r < length digits → get_or digits r 0 ≡ get_or whole r 0) → IsOfGroup number planes whole → IsOfGroup number planes digits
unfolding IsOfGroup
group_of_prefix number planes whole digits short same group r k h small = ap (λ w. bit_at w k) (same r h) ∙ group r k (omega arith) small

-- the words of no digits
pub group_of_none : (number : ℕ) (digits : List ℕ) (planes : List (List ℕ)) → length digits ≡ 0
    → ((k : ℕ) → k < length planes → word_of planes number k ≡ 0) → HoldsGroup number digits planes
unfolding HoldsGroup
group_of_none number digits planes none zeros k r within small = search (rules, bit_at-zero, get_or_past)

-- where as many zeros were put as planes are left, there are none of any digit
pub zeros_put : (n count number from : ℕ) (old new : List (List ℕ)) → length new ≤ from + count
    → HoldsFrom count number from (replicate n 0) old new → KeepsOthers number old new
    → PutsNone number from old new
zeros_put n count number from old new all put kept =
    record {
      zeros = λ k past within.
          let at : from + (k - from) ≡ k = omega arith in
          cc (put.inside (k - from) (omega arith) (omega arith), no_word n (k - from));
      below = put.below;
      others = kept;
    }

-- what becomes of groups of digits, and of planes
pub ruleset of_planes = (length-map, planes_of_first, planes_of_tiles, group_of_same, group_of_none)

pub ruleset of_digits = (length-map, digits_of_halves, digits_in_window, digits_of_half)
