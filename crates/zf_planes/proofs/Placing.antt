-- A plane in words whose digits are put in from its front on.
use Rattle.std.proofs.Common.{rules, ◌≡◌, ℕ, zero, suc, ◌+◌, ◌-◌, ◌*◌, ◌/◌, ◌%◌, ◌^◌, ◌<◌, ◌≤◌, ◌≢◌, ⊎_elim, Bool, true, false, List, [], ◌∷◌, ◌++◌, length, get_or, set, take, drop, replicate, get_or-set_same, get_or-set_other, ext_get_or, sym, ap, ◌∙◌, arith, length-set, length-append, length-take, append_assoc}
use Rattle.std.{specs.Int.{w64}, specs.Int.Bits.{bit_or}, proofs.Math.Seq.{take-add}}
use Rattle.std.{proofs.lemmas.Bool.{cases_eq}, proofs.lemmas.Nat.Bits.{bit_at_set_same, bit_at_set_other}}
use Rattle.std.proofs.lemmas.List.{take_at, drop_at, drop-drop, drop-set-lt, take-replicate, drop-replicate, length-replicate, replicate-append-replicate, append-nil, take_more_set}
use Rattle.zf_spec.{specs.Numbers.{is_odd, field, word_bits}, specs.Planes.{reach}}
use Rattle.zf_spec.specs.HeldPlanes.{digits_held, IsClearFrom}
use Rattle.zf_spec.{proofs.Reach.{reach-le}, proofs.Fields.{length-field, field-add, field-zero}}
use Rattle.zf_spec.proofs.WordBits.{length-word_bits, get_or-word_bits}
use Rattle.zf_bits.{proofs.Words.{words-set}, proofs.Packed.{flat_map-field-replicate}}
use Rattle.zf_planes.proofs.Runs.{reach-push, reach-push_zero}

-- ---- a list that is filled from its front, and holds one value from some place on

-- behind a place that is written
pub behind_set : {A : Type 0} (xs : List A) (x z : A) (i k : ℕ) → drop i xs ≡ replicate (length xs - i) z → drop (i + k + 1) (set xs (i + k) x) ≡ replicate (length (set xs (i + k) x) - (i + k + 1)) z
behind_set xs x z i k e =
    let place : i + k + 1 ≡ i + (k + 1) = omega arith in
    let count : length xs - i - (k + 1) ≡ length (set xs (i + k) x) - (i + k + 1) = omega (arith, length-set xs (i + k) x) in
    cc (
      drop-set-lt (i + k + 1) xs (i + k) x (omega arith),
      drop-drop (k + 1) i xs,
      drop-replicate (k + 1) (length xs - i) z,
    )

-- behind the next place
pub behind_next : {A : Type 0} (xs : List A) (x z : A) (i : ℕ) → drop i xs ≡ replicate (length xs - i) z → drop (i + 1) (set xs i x) ≡ replicate (length (set xs i x) - (i + 1)) z
behind_next xs x z i e = let here : i + 0 ≡ i = omega arith in rw here at (behind_set xs x z i 0 e)

-- ---- words with no bit from a rank on

pub clear_zeros : (n k : ℕ) → IsClearFrom n (replicate k 0)
unfolding IsClearFrom
clear_zeros n k = search (rules, flat_map-field-replicate, length-replicate, drop-replicate)

pub clear_later : (n m : ℕ) (ws : List ℕ) → n ≤ m → IsClearFrom n ws → IsClearFrom m ws
unfolding IsClearFrom
clear_later n m ws order clear =
    let bits = word_bits ws in
    let place : n + (m - n) ≡ m = omega arith in
    let count : length bits - n - (m - n) ≡ length bits - m = omega arith in
    cc (drop-drop (m - n) n bits, drop-replicate (m - n) (length bits - n) false)

pub held_zeros : (size k : ℕ) → size ≤ 64 * k → digits_held size (replicate k 0) ≡ replicate size false
unfolding digits_held
held_zeros size k within = ap (take size) (flat_map-field-replicate 64 k) ∙ take-replicate size (64 * k) false within

-- the digits behind those that were put in are zero
pub held_behind : (n size : ℕ) (ws : List ℕ) → n ≤ size → size ≤ 64 * length ws → IsClearFrom n ws → digits_held size ws ≡ digits_held n ws ++ replicate (size - n) false
unfolding digits_held IsClearFrom
held_behind n size ws order within clear =
    let place : size ≡ n + (size - n) = omega arith in search (rules, take-add, take-replicate, length-word_bits)

pub ruleset put_in = (held_behind, clear_later)

-- ---- a word is put in

regroup : (a b c d : List Bool) → a ++ ((b ++ c) ++ d) ≡ (a ++ b) ++ (c ++ d)
regroup a b c d = simp append_assoc

pub word_filled : (ws : List ℕ) (at q n x : ℕ) (s : List Bool) → at ≡ 64 * q → n ≤ 64 → q < length ws → field 64 x ≡ s ++ replicate (64 - n) false → length s ≡ n → IsClearFrom at ws
    → (digits_held (at + n) (set ws q x) ≡ digits_held at ws ++ s) × IsClearFrom (at + n) (set ws q x)
unfolding digits_held IsClearFrom
word_filled ws at q n x s place small within word long clear =
    let bits = word_bits ws in
    let all = length-word_bits ws in
    let next : 64 * suc q ≡ at + 64 = omega arith in
    let behind : drop (64 * suc q) bits ≡ replicate (length bits - at - 64) false =
    ap (λ k. drop k bits) next ∙ sym (drop-drop 64 at bits) ∙ ap (drop 64) clear ∙ drop-replicate 64 (length bits - at) false in
    let more = replicate (64 - n) false ++ drop (64 * suc q) bits in
    let whole : word_bits (set ws q x) ≡ (take at bits ++ s) ++ more =
    cc (
      words-set 64 q ws x within,
      regroup (take at bits) s (replicate (64 - n) false) (drop (64 * suc q) bits),
    ) in
    let prefix : length (take at bits ++ s) ≡ at + n = omega (arith, length-append (take at bits) s, length-take at bits) in
    let same : 64 - n + (length bits - at - 64) ≡ length (word_bits (set ws q x)) - (at + n) = omega (arith, length-word_bits (set ws q x), length-set ws q x) in
    search (rules, take_at, drop_at, replicate-append-replicate)

-- ---- a one is put in

pub one_set : (ws : List ℕ) (r : ℕ) → r < 64 * length ws → word_bits (set ws (r / 64) (bit_or (get_or ws (r / 64) 0) (1 * 2 ^ (r % 64) % 2 ^ 64))) ≡ set (word_bits ws) r true
one_set ws r within =
    let q = r / 64 in
    let v = get_or ws q 0 in
    let x = bit_or v (1 * 2 ^ (r % 64) % 2 ^ 64) in
    let all = length-word_bits ws in
    let long = length-word_bits (set ws q x) in
    let same_long = length-set ws q x in
    ext_get_or false (word_bits (set ws q x)) (set (word_bits ws) r true) (omega (arith, length-set (word_bits ws) r true))
    (λ j low.
    get_or-word_bits (set ws q x) j (omega arith)
    ∙ ⊎_elim
    (λ (here : j ≡ r).
    cc (
      get_or-set_same ws q x 0 (omega arith),
      bit_at_set_same w64 v (r % 64) (omega arith),
      get_or-set_same (word_bits ws) r true false (omega arith),
    ))
    (λ (apart : j ≢ r).
    cc (
      other j apart (omega arith),
      get_or-word_bits ws j (omega arith),
      get_or-set_other (word_bits ws) r j true false apart,
    ))
    (cases_eq j r))
  where
    other : (j : ℕ) → j ≢ r → j < 64 * length ws
        → is_odd (get_or (set ws (r / 64) (bit_or (get_or ws (r / 64) 0) (1 * 2 ^ (r % 64) % 2 ^ 64))) (j / 64) 0 / 2 ^ (j % 64)) ≡ is_odd (get_or ws (j / 64) 0 / 2 ^ (j % 64))
    other j apart inside =
        let q = r / 64 in
        let v = get_or ws q 0 in
        let x = bit_or v (1 * 2 ^ (r % 64) % 2 ^ 64) in
        ⊎_elim
        (λ (same : j / 64 ≡ q).
        let bit : j % 64 ≢ r % 64 = λ (e : j % 64 ≡ r % 64). apart (omega arith) in
        cc (
          get_or-set_same ws q x 0 (omega arith),
          bit_at_set_other w64 v (r % 64) (omega arith) (j % 64) bit,
        ))
        (λ (away : j / 64 ≢ q). ap (λ u. is_odd (u / 2 ^ (j % 64))) (get_or-set_other ws q (j / 64) x 0 away))
        (cases_eq (j / 64) q)

-- zeros and a one behind the digits that were put in
pub one_placed : (ws ws' : List ℕ) (n z : ℕ) → n + z < 64 * length ws → IsClearFrom n ws → word_bits ws' ≡ set (word_bits ws) (n + z) true
    → (digits_held (n + z + 1) ws' ≡ digits_held n ws ++ (replicate z false ++ true ∷ [])) × IsClearFrom (n + z + 1) ws'
unfolding digits_held IsClearFrom
one_placed ws ws' n z within clear is =
    search (rules, length-word_bits, take-replicate, take_more_set, take-add, append_assoc, behind_set)

-- ---- how far the ones reach

pub reach_behind : (xs : List Bool) (k : ℕ) → reach (xs ++ replicate k false) ≡ reach xs
reach_behind xs zero = ap reach (append-nil xs)
reach_behind xs (suc k) =
    ap reach (sym (append_assoc xs (false ∷ []) (replicate k false))) ∙ reach_behind (xs ++ false ∷ []) k ∙ reach-push_zero xs

pub reach_one : (xs : List Bool) (z : ℕ) → reach (xs ++ (replicate z false ++ true ∷ [])) ≡ length xs + z + 1
reach_one xs z =
    grind (
      arith,
      append_assoc xs (replicate z false) (true ∷ []),
      reach-push (xs ++ replicate z false),
      length-append xs (replicate z false),
      length-replicate z false,
    )

-- no one from rank n on
pub reach_below : (n size v : ℕ) → n ≤ size → v / 2 ^ n ≡ 0 → reach (field size v) ≤ n
reach_below n size v order none =
    let parts : n + (size - n) ≡ size = omega arith in search (rules, field-add, field-zero, reach_behind, reach-le, length-field)
