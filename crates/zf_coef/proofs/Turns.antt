-- Steps that together turn the tiles of words.
use Rattle.std.proofs.Common.{rules, ◌≡◌, refl, ap, ◌∙◌, ℕ, zero, suc, ◌+◌, ◌-◌, ◌*◌, ◌/◌, ◌%◌, ◌^◌, ◌<◌, ◌≤◌, ◌≢◌, min, ⊎_elim, Bool, true, eqb, ◌&&◌, List, ◌++◌, length, replicate, arith}
use Rattle.std.{proofs.lemmas.Bool.{cases_lt, cases_eq, eqb-true, and_parts}, specs.Int.{bit_at}}
use Rattle.std.{proofs.Math.Nat.{mod-eq_of_lt, mod-le}, specs.Int.RustNames.{bit_xor}}
use Rattle.std.proofs.lemmas.List.{get_or_past, get_or_append_left, get_or-append_right, length-append, length-replicate}
use Rattle.std.proofs.lemmas.Nat.Bits.{bit_at_xor, bit_at-lt, bit_at-zero}
use Rattle.zf_coef.proofs.Halves.{no_word}
use Rattle.zf_coef.specs.Turned.{bit_of, moved, IsMask, with_digit, IsStepped, IsTurned, crossed, IsFoldedTurned}
use Rattle.zf_coef.proofs.ShiftedBits.{bit_at-mod, bit_at-shl_low, bit_at-shl_high}
use Rattle.zf_coef.proofs.Steps.{bit_at-moved}

-- ---- masks

-- the mask has these ones at its first places
abbrev pub has_ones_to : (ℕ → ℕ) → ℕ → ℕ → Bool
has_ones_to ones m zero = true
has_ones_to ones m (suc i) = eqb (bit_at m i) (ones i) && has_ones_to ones m i

pub ones_below : (ones : ℕ → ℕ) (m n : ℕ) → has_ones_to ones m n ≡ true → (i : ℕ) → i < n → bit_at m i ≡ ones i
ones_below ones m zero all i h = absurd (omega arith)
ones_below ones m (suc n) all i h =
    let parts = and_parts (eqb (bit_at m n) (ones n)) (has_ones_to ones m n) all in
    let before = ones_below ones m n parts.1 in search (rules, eqb-true, cases_lt)

pub mask_from : (s m : ℕ) → has_ones_to (λ i. 1 - i / s % 2) m 64 ≡ true → IsMask s m
mask_from s m all = ones_below (λ i. 1 - i / s % 2) m 64 all

-- ---- steps from half of a tile's rows downward

-- from s upward, the digits of row and column have changed places
abbrev pub IsTurnedTo : ℕ → ℕ → List ℕ → List ℕ → Type 0
IsTurnedTo n s old new = (j i : ℕ) → j < n → i < 64 → bit_of new j i ≡ bit_of old (j % s + (i % n - i % s)) (i - i % n + (j - j % s) + i % s)

-- what is known of numbers and their digits at s, in tiles of n rows
pub record Digit (n s : ℕ) : Type 0 where
  pub word : (j i : ℕ) → j < n → i < 64 → with_digit s j i < n
  pub place : (j i : ℕ) → j < n → i < 64 → with_digit s i j < 64
  pub row : (j i : ℕ) → j < n → i < 64
      → with_digit s j i % (2 * s) + (with_digit s i j % n - with_digit s i j % (2 * s)) ≡ j % s + (i % n - i % s)
  pub column : (j i : ℕ) → j < n → i < 64
      → with_digit s i j - with_digit s i j % n + (with_digit s j i - with_digit s j i % (2 * s)) + with_digit s i j % (2 * s) ≡ i - i % n + (j - j % s) + i % s

pub none_turned : (n : ℕ) (words : List ℕ) → IsTurnedTo n n words words
none_turned n words j i a b = search (rules, mod-eq_of_lt, mod-le)

pub more_turned : (n s : ℕ) (old mid new : List ℕ) → Digit n s → length mid ≡ n → IsTurnedTo n (2 * s) old mid → IsStepped s mid new → IsTurnedTo n s old new
unfolding IsStepped
more_turned n s old mid new d long before step j i a b = grind arith

pub all_turned : (n : ℕ) (old new : List ℕ) → IsTurnedTo n 1 old new → IsTurned n old new
unfolding IsTurned
all_turned n old new to j i a b = search rules

-- what is known of numbers and their digits at n, in tiles of twice as many rows
pub record Twice (n : ℕ) : Type 0 where
  pub here : (j i : ℕ) → j < 2 * n → i < 64 → i / n % 2 ≡ 0 → (with_digit n j i < n) × (with_digit n i j < 64)
  pub row : (j i : ℕ) → j < 2 * n → i < 64 → i / n % 2 ≡ 0 → with_digit n i j % n ≡ i % (2 * n)
  pub column : (j i : ℕ) → j < 2 * n → i < 64 → i / n % 2 ≡ 0
      → with_digit n i j - with_digit n i j % n + with_digit n j i ≡ i - i % (2 * n) + j
  pub past : (j i : ℕ) → j < 2 * n → i < 64 → i / n % 2 ≢ 0 → (n ≤ with_digit n j i) × (n ≤ i % (2 * n))

-- turned rows, and as many rows of zeros behind them, by the step that is left
pub half_turned : (n m : ℕ) (old turned mid new : List ℕ) → IsStepped n (mid ++ replicate n 0) new → mid ≡ turned
    → IsTurned n old turned → m ≡ 2 * n → Twice n → length old ≡ n → length mid ≡ n → IsTurned m old new
unfolding IsTurned IsStepped
half_turned n m old turned mid new step same turn twice known long all j i a b =
    let zeros : List ℕ = replicate n 0 in
    let below : j < 2 * n = omega arith in
    let is = step j i (omega (arith, length-append mid zeros, length-replicate {A = ℕ} n 0)) b in
    let row = with_digit n j i in
    let place = with_digit n i j in
    ⊎_elim
    (λ (none : i / n % 2 ≡ 0).
    let here = known.here j i below b none in
    let first = get_or_append_left mid zeros 0 row (omega arith) in
    cc (is, first, turn row place here.0 here.1, known.row j i below b none, known.column j i below b none))
    (λ (one : i / n % 2 ≢ 0).
    let past = known.past j i below b one in
    let zero = get_or-append_right mid zeros n row 0 all past.0 ∙ no_word n (row - n) in
    let gone = get_or_past old (i % (2 * n)) 0 (omega arith) in
    cc (is, zero, gone, bit_at-zero place, bit_at-zero (i - i % (2 * n) + j)))
    (cases_eq (i / n % 2) 0)

-- ---- sixteen rows in eight words

-- a word whose bytes are crossed: bits that differ from those 24 places on are moved there, and back
pub crossed_word : (x i : ℕ) → i < 64 → bit_at (bit_xor (bit_xor x (moved 24 0xff00_ff00 x x)) (moved 24 0xff00_ff00 x x * 2 ^ 24 % 2 ^ 64)) i ≡ bit_at x (crossed i)
crossed_word x i within =
    let t = moved 24 0xff00_ff00 x x in
    let u = t * 2 ^ 24 % 2 ^ 64 in
    let ones = ones_below (λ (k : ℕ). k / 8 % 2 - k / 32) 0xff00_ff00 64 refl in
    let bits : (k : ℕ) → k < 64
    → bit_at t k ≡ min ((bit_at x (24 + k) + bit_at x k) % 2) (k / 8 % 2 - k / 32) =
    λ k h. bit_at-moved 24 0xff00_ff00 x x k ∙ ap (min ((bit_at x (24 + k) + bit_at x k) % 2)) (ones k h) in
    let at : (j : ℕ) → j ≡ crossed i → bit_at x j ≡ bit_at x (crossed i) = λ j same. ap (bit_at x) same in
    let less = bit_at-lt x in
    let first = bit_at_xor (bit_xor x t) u i in
    let second = bit_at_xor x t i in
    let back : bit_at u i ≡ bit_at (t * 2 ^ 24) i = bit_at-mod (t * 2 ^ 24) i within in
    let here = bits i within in
    ⊎_elim
    (λ (few : i < 24).
    let none = bit_at-shl_low t 24 i few in
    ⊎_elim
    (λ (stays : i / 8 % 2 ≡ 0). omega (arith, at i (omega arith), less i))
    (λ (goes : i / 8 % 2 ≢ 0). omega (arith, at (24 + i) (omega arith), less i, less (24 + i)))
    (cases_eq (i / 8 % 2) 0))
    (λ (far : 24 ≤ i).
    let again : bit_at x (24 + (i - 24)) ≡ bit_at x i = ap (bit_at x) (omega arith) in
    let shifted = bit_at-shl_high t 24 i far in
    let there = bits (i - 24) (omega arith) in
    ⊎_elim
    (λ (low : i < 32). omega (arith, at (24 + i) (omega arith), less i, less (24 + i)))
    (λ (high : 32 ≤ i). ⊎_elim
    (λ (comes : i / 8 % 2 ≡ 0). omega (arith, at (i - 24) (omega arith), less i, less (i - 24)))
    (λ (stays : i / 8 % 2 ≢ 0). omega (arith, at i (omega arith), less i))
    (cases_eq (i / 8 % 2) 0))
    (cases_lt i 32))
    (cases_lt i 24)

-- crossed bytes and turned tiles of eight rows are turned tiles of sixteen that lie folded
pub folded_turned : (old mid new : List ℕ) → ((j i : ℕ) → j < 8 → i < 64 → bit_of mid j i ≡ bit_of old j (crossed i)) → IsTurned 8 mid new → IsFoldedTurned old new
unfolding IsTurned IsFoldedTurned
folded_turned old mid new cross turn r k a b = search rules

-- what turns tiles step by step
pub ruleset turning_steps = (mask_from, none_turned, more_turned, all_turned)
