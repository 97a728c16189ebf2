-- Planes that are made of coefficients, and coefficients that are made of planes.
use Rattle.std.proofs.Common.{rules, ◌≡◌, refl, sym, ◌∙◌, ℕ, suc, ◌+◌, ◌-◌, ◌*◌, ◌/◌, ◌%◌, ◌^◌, ◌<◌, ◌≤◌, Bool, false, min, All, List, [], ◌∷◌, map, reverse, length, get_or, take, drop, replicate, ext_get_or, get_or-take, get_or-drop, length-take, length-drop, mod-lt, arith}
use Rattle.std.{proofs.lemmas.Bool.{cases_lt}, proofs.lemmas.Nat.Bits.{bit_at-zero, same_from_bits_below}}
use Rattle.std.proofs.lemmas.List.{get_or_past, get_or_append_left, get_or-append_right, length-map, get_or-map, length-replicate, get_or-replicate}
use Rattle.std.{specs.Int.{bit_at}, proofs.Math.Nat.{mod-le}, proofs.lemmas.Nat.{pow_pos}}
use Rattle.std.proofs.lemmas.List.Elements.{All-from_get_or, All-get_or}
use Rattle.zf_spec.{specs.Numbers.{field, number, word_bits, is_odd}, specs.Grid.{upto}}
use Rattle.zf_spec.specs.Planes.{plane, planes_of, digits_in_planes}
use Rattle.zf_spec.proofs.Counting.{four_elements, length-map-upto, get_or-map-upto}
use Rattle.zf_spec.proofs.PlaneDigits.{get_or-plane, length-map-reverse-upto, get_or-map-reverse-upto, get_or-planes_of, length-planes_of}
use Rattle.zf_spec.specs.HeldPlanes.{digits_held, planes_held, IsClearFrom}
use Rattle.zf_spec.proofs.Fields.{get_or-field, length-field}
use Rattle.zf_spec.proofs.WordBits.{length-word_bits, get_or-word_bits}
use Rattle.zf_spec.proofs.HeldPlanes.{length-planes_held, get_or-planes_held}
use borrow.Rule.Slice.PartMut.{put_mid}
use Rattle.zf_coef.{proofs.ShiftedBits.{bit_at-mod_pow, bit_at-mod_above}, proofs.Halves.{word_of-past}}
use Rattle.zf_coef.{specs.HeldDigits.{digits_in, column}, specs.Turned.{bit_of}}
use Rattle.zf_coef.specs.Groups.{word_of, HoldsGroup, KeepsOthers, IsOfGroup}

-- ---- one plane

-- words hold digit k of each coefficient, and no other bit
pub record HoldsPlane (k : ℕ) (digits words : List ℕ) : Type 0 where
  pub room : length digits ≤ 64 * length words
  pub each : (j : ℕ) → j < 64 * length words → get_or (word_bits words) j false ≡ is_odd (get_or digits j 0 / 2 ^ k)

pub plane_digits : (k : ℕ) (digits words : List ℕ) (n : ℕ) → k < n → HoldsPlane k digits words
    → digits_held (length digits) words ≡ plane k (digits_in n digits)
unfolding digits_held
plane_digits k digits words n below holds =
    let size = length digits in
    let coefficients = digits_in n digits in
    let each = length-map digits (field n) in
    let long = length-take size (word_bits words) in
    let all = length-word_bits words in
    ext_get_or false (take size (word_bits words)) (plane k coefficients)
    (omega (arith, length-map coefficients (λ ds. get_or ds k false)))
    (search (rules, get_or-take, get_or-plane, get_or-map, get_or-field))

pub plane_clear : (k : ℕ) (digits words : List ℕ) → HoldsPlane k digits words → IsClearFrom (length digits) words
unfolding IsClearFrom
plane_clear k digits words holds =
    let size = length digits in
    let bits = word_bits words in
    let rest = length bits - size in
    let all = length-word_bits words in
    let long = length-drop size bits in
    ext_get_or false (drop size bits) (replicate rest false) (long ∙ sym (length-replicate rest false))
    (search (rules, get_or-drop, get_or_past, bit_at-zero, get_or-replicate))

-- ---- groups of 64 coefficients

-- the first words of planes hold the digits of so many groups
pub record HoldsGroups (number : ℕ) (digits : List ℕ) (planes : List (List ℕ)) : Type 0 where
  pub each : (p k r : ℕ) → p < number → k < length planes → r < 64 → bit_at (word_of planes p k) r ≡ bit_of digits (64 * p + r) k

-- digits that are left behind so many groups
pub record IsBehind (number : ℕ) (digits rest : List ℕ) : Type 0 where
  pub long : length rest ≡ length digits - 64 * number
  pub each : (r : ℕ) → get_or rest r 0 ≡ get_or digits (64 * number + r) 0

-- a group ends where the digits end
in_group : (rest : List ℕ) (n r : ℕ) → n ≡ min (length rest) 64 → r < 64 → get_or (take n rest) r 0 ≡ get_or rest r 0
in_group rest n r size small = search (rules, get_or-take, get_or_past, length-take, cases_lt)

pub behind_more : (number n : ℕ) (digits rest : List ℕ) → n ≡ min (length rest) 64 → IsBehind number digits rest → IsBehind (number + 1) digits (drop n rest)
behind_more number n digits rest size before = search (rules, length-drop, get_or-drop, get_or_past, cases_lt)

pub groups_more : (number n : ℕ) (digits rest : List ℕ) (old new : List (List ℕ)) → n ≡ min (length rest) 64 → length new ≡ length old
    → IsBehind number digits rest → HoldsGroups number digits old
    → HoldsGroup number (take n rest) new → KeepsOthers number old new → HoldsGroups (number + 1) digits new
unfolding HoldsGroup KeepsOthers
groups_more number n digits rest old new size long behind before group others = grind (arith, in_group, cases_lt)

-- planes all of whose words hold the digits of their groups
pub plane_of_groups : (number k : ℕ) (digits : List ℕ) (planes : List (List ℕ)) → length digits ≤ 64 * number → k < length planes
    → length (get_or planes k []) ≡ number → HoldsGroups number digits planes → HoldsPlane k digits (get_or planes k [])
plane_of_groups number k digits planes room within long groups =
    record {
      room = omega arith;
      each = search (rules, get_or-word_bits);
    }

pub planes_of_groups : (number : ℕ) (digits : List ℕ) (planes : List (List ℕ)) → length digits ≤ 64 * number
    → ((k : ℕ) → k < length planes → length (get_or planes k []) ≡ number) → HoldsGroups number digits planes
    → planes_held (length digits) planes ≡ planes_of (length planes) (digits_in (length planes) digits)
planes_of_groups number digits planes room long groups =
    let n = length planes in
    let size = length digits in
    let coefficients = digits_in n digits in
    let count = length-planes_held size planes in
    ext_get_or [] (planes_held size planes) (planes_of n coefficients)
    (count ∙ sym (length-planes_of n coefficients))
    (λ k h.
    let j = n - 1 - k in
    let within : j < n = omega arith in
    get_or-planes_held size planes k [] (omega arith)
    ∙ plane_digits j digits (get_or planes j []) n within
    (plane_of_groups number j digits planes room within (long j within) groups)
    ∙ sym (get_or-planes_of n coefficients k (omega arith)))

pub clear_of_groups : (number : ℕ) (digits : List ℕ) (planes : List (List ℕ)) → length digits ≤ 64 * number
    → ((k : ℕ) → k < length planes → length (get_or planes k []) ≡ number) → HoldsGroups number digits planes
    → All (IsClearFrom (length digits)) planes
clear_of_groups number digits planes room long groups =
    All-from_get_or (IsClearFrom (length digits)) planes []
    (λ k within. plane_clear k digits (get_or planes k []) (plane_of_groups number k digits planes room within (long k within) groups))

-- ---- all coefficients

pub length-digits_in_planes : (n size : ℕ) (planes : List (List Bool)) → length (digits_in_planes n size planes) ≡ size
unfolding digits_in_planes
length-digits_in_planes n size planes = length-map-upto (λ r. map (λ k. get_or (get_or planes k []) r false) (reverse (upto n))) size

get_or-digits_held : (size : ℕ) (words : List ℕ) (r : ℕ) → r < size → get_or (digits_held size words) r false ≡ get_or (word_bits words) r false
unfolding digits_held
get_or-digits_held size words r below = get_or-take size (word_bits words) r false below

-- the coefficient of a rank, of planes as they are held
pub get_or-digits_in_planes : (size : ℕ) (planes : List (List ℕ)) (r : ℕ) → r < size → get_or (digits_in_planes (length planes) size (planes_held size planes)) r [] ≡ column r planes
unfolding digits_in_planes column
get_or-digits_in_planes size planes r below =
    let n = length planes in
    let held = planes_held size planes in
    let digit : ℕ → Bool = λ k. get_or (get_or held k []) r false in
    let bit_at_rank : List ℕ → Bool = λ words. get_or (word_bits words) r false in
    let long = length-map-reverse-upto digit n in
    get_or-map-upto (λ q. map (λ k. get_or (get_or held k []) q false) (reverse (upto n))) size r [] below
    ∙ ext_get_or false (map digit (reverse (upto n))) (map bit_at_rank planes) (long ∙ sym (length-map planes bit_at_rank))
    (λ i h.
    let small : i < n = omega arith in
    let turned : n - 1 - (n - 1 - i) ≡ i = omega arith in
    search (rules, get_or-map-reverse-upto, get_or-planes_held, get_or-digits_held, get_or-map))

-- planes of four words are what they are by their words
pub all_four : (planes : List (List ℕ)) → ((k : ℕ) → k < length planes → length (get_or planes k []) ≡ 4)
    → map (λ ws. get_or ws 0 0 ∷ get_or ws 1 0 ∷ get_or ws 2 0 ∷ get_or ws 3 0 ∷ []) planes ≡ planes
all_four [] long = refl
all_four (ws ∷ planes) long =
    let first = four_elements ws (long 0 (omega arith)) in
    let rest = all_four planes (λ k h. long (suc k) (omega arith)) in cc

-- ---- coefficients of groups

-- the coefficients of so many groups have the digits that planes hold
pub record IsOfGroups (number : ℕ) (planes : List (List ℕ)) (digits : List ℕ) : Type 0 where
  pub each : (r k : ℕ) → r < 64 * number → r < length digits → k < 64 → bit_of digits r k ≡ bit_at (word_of planes (r / 64) k) (r % 64)

-- one group more, written where the coefficients before it end
pub group_written : (number a k : ℕ) (planes : List (List ℕ)) (xs ys : List ℕ) → a ≡ 64 * number → k ≡ min 64 (length xs - a) → length ys ≡ k → a ≤ length xs
    → length (put_mid a k xs ys) ≡ length xs
    → IsOfGroups number planes xs → IsOfGroup number planes ys → IsOfGroups (number + 1) planes (put_mid a k xs ys)
unfolding IsOfGroup
group_written number a k planes xs ys start count long within same_length before group =
    search (rules, get_or_append_left, length-take, get_or-take, in_group, get_or-append_right, cases_lt)

-- the digits of one coefficient
digits_of_rank : (number r : ℕ) (planes : List (List ℕ)) (digits : List ℕ) → length planes ≤ 64 → length digits ≤ 64 * number → r < length digits
    → ((k : ℕ) → k < length planes → r < 64 * length (get_or planes k []))
    → IsOfGroups number planes digits → field (length planes) (get_or digits r 0) ≡ column r planes
unfolding column
digits_of_rank number r planes digits few room within long groups =
    let n = length planes in
    let v = get_or digits r 0 in
    let bit_at_rank : List ℕ → Bool = λ words. get_or (word_bits words) r false in
    ext_get_or false (field n v) (map bit_at_rank planes) (length-field n v ∙ sym (length-map planes bit_at_rank))
    (search (rules, length-field, get_or-field, get_or-map, get_or-word_bits))

pub digits_of_groups : (number : ℕ) (planes : List (List ℕ)) (digits : List ℕ) → length planes ≤ 64 → length digits ≤ 64 * number
    → ((r k : ℕ) → r < length digits → k < length planes → r < 64 * length (get_or planes k []))
    → IsOfGroups number planes digits
    → digits_in (length planes) digits ≡ digits_in_planes (length planes) (length digits) (planes_held (length digits) planes)
digits_of_groups number planes digits few room long groups =
    let n = length planes in
    let size = length digits in
    let held = planes_held size planes in
    ext_get_or [] (digits_in n digits) (digits_in_planes n size held) (length-map digits (field n) ∙ sym (length-digits_in_planes n size held))
    (λ r h.
    let within : r < size = omega (arith, length-map digits (field n)) in
    get_or-map (field n) digits r 0 [] within
    ∙ digits_of_rank number r planes digits few room within (λ k below. long r k within below) groups
    ∙ sym (get_or-digits_in_planes size planes r within))

-- a coefficient has no digit that has no plane
pub below_planes : (number : ℕ) (planes : List (List ℕ)) (digits : List ℕ) → length planes ≤ 64 → length digits ≤ 64 * number
    → All (λ u. u < 2 ^ 64) digits → IsOfGroups number planes digits → All (λ u. u < 2 ^ length planes) digits
below_planes number planes digits few room words groups =
    let n = length planes in
    All-from_get_or (λ u. u < 2 ^ n) digits 0
    (λ r within.
    let v = get_or digits r 0 in
    let word : v < 2 ^ 64 = All-get_or (λ u. u < 2 ^ 64) digits r 0 within words in
    let same : v ≡ v % 2 ^ n = same_from_bits_below 64 v (v % 2 ^ n) word (omega (arith, mod-le v (2 ^ n)))
    (λ k small. search (rules, bit_at-mod_pow, word_of-past, bit_at-zero, bit_at-mod_above, cases_lt)) in
    omega (arith, mod-lt v (pow_pos n)))
