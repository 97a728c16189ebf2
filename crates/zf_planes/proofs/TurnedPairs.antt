-- Digits that stand two bits apart, put together and turned.
use Rattle.std.proofs.Common.{rules, ◌≡◌, ℕ, zero, suc, ◌+◌, ◌-◌, ◌*◌, ◌/◌, ◌%◌, ◌^◌, ◌<◌, ◌≤◌, true, eqb, ⊎_elim, refl, ap, ◌∙◌, arith, pow-suc}
use Rattle.std.{specs.Int.{bit_at, w64, trailing_zeros}, specs.Int.RustNames.{bit_or}, proofs.lemmas.Bool.{eqb-true, cases_lt}}
use Rattle.std.proofs.lemmas.Nat.{and_block, and_mask, and_le_r, or_lt, le_or_r}
use Rattle.std.proofs.lemmas.Nat.Bits.{bit_at_and, bit_at_or, bit_at-trailing_zeros, bit_at-lt, bit_at-suc, bit_at_cat_low, bit_at_cat_high}
use Rattle.std.proofs.Math.Nat.{mul-le-mul_right}
use lib.Bits.{bit_and}
use Rattle.zf_planes.specs.{Lanes.{AreTurned}, Spread.{turned}}
use Rattle.zf_planes.proofs.Tables.{each_below, each_below-true}

-- the mask of k digits two bits apart, and a number whose digits are put so far apart, or together again
mask : ℕ → ℕ
mask zero = 0
mask (suc k) = mask k * 4 + 1

apart : ℕ → ℕ → ℕ
apart zero m = 0
apart (suc k) m = m % 2 + 4 * apart k (m / 2)

together : ℕ → ℕ → ℕ
together zero n = 0
together (suc k) n = n % 2 + 2 * together k (n / 4)

together-lt : (k n : ℕ) → together k n < 2 ^ k
unfolding together
together-lt zero n = omega arith
together-lt (suc k) n = omega (arith, together-lt k (n / 4), pow-suc 2 k)

masked : (k n : ℕ) → bit_and n (mask k) ≡ apart k (together k n)
unfolding mask apart together
masked zero n = search (rules, and_mask n 0)
masked (suc k) n =
    let p = together k (n / 4) in
    let whole : n ≡ n / 4 * 4 + n % 4 = omega arith in
    let block : bit_and (n / 4 * 4 + n % 4) (mask k * 4 + 1) ≡ bit_and (n / 4) (mask k) * 4 + bit_and (n % 4) 1 = and_block 2 (n / 4) (mask k) (n % 4) 1 (omega arith) (omega arith) in
    let low : bit_and (n % 4) 1 ≡ n % 4 % 2 = and_mask (n % 4) 1 in
    let digit : (n % 2 + 2 * p) % 2 ≡ n % 2 = omega arith in
    let above : (n % 2 + 2 * p) / 2 ≡ p = omega arith in
    ap (λ m. bit_and m (mask k * 4 + 1)) whole ∙ block ∙ (rw (digit, above) (omega (arith, masked k (n / 4), low)))

pub turned-lt : (k n : ℕ) → turned k n < 2 ^ k
unfolding turned
turned-lt zero n = omega arith
turned-lt (suc k) n =
    let digit = bit_at-lt n 0 in
    let high : n % 2 * 2 ^ k ≤ 1 * 2 ^ k = mul-le-mul_right (2 ^ k) (omega (arith, digit)) in
    omega (arith, high, turned-lt k (n / 4), pow-suc 2 k)

turned_digit : (k n j : ℕ) → j < k → bit_at (turned k n) (k - 1 - j) ≡ bit_at n (2 * j)
unfolding turned
turned_digit zero n j here = absurd (omega arith)
turned_digit (suc k) n zero here =
    let place : suc k - 1 - 0 ≡ k = omega arith in
    let foot : k - k ≡ 0 = omega arith in
    ap (bit_at (n % 2 * 2 ^ k + turned k (n / 4))) place ∙ bit_at_cat_high (n % 2) k (turned k (n / 4)) k (turned-lt k (n / 4)) (omega arith) ∙ ap (bit_at (n % 2)) foot ∙ omega arith
turned_digit (suc k) n (suc j) here =
    let place : suc k - 1 - suc j ≡ k - 1 - j = omega arith in
    let four : n / 2 / 2 ≡ n / 4 = omega arith in
    let twice : 2 * suc j ≡ suc (suc (2 * j)) = omega arith in
    ap (bit_at (n % 2 * 2 ^ k + turned k (n / 4))) place
    ∙ bit_at_cat_low (n % 2) k (turned k (n / 4)) (k - 1 - j) (omega arith)
    ∙ turned_digit k (n / 4) j (omega arith)
    ∙ (rw (twice, bit_at-suc, bit_at-suc, four) refl)

-- the steps
abbrev pub pushed : ℕ → ℕ
pushed two_apart =
    let in_halves = bit_and (bit_or (two_apart * 2 ^ 1 % 2 ^ 64) (two_apart / 2 ^ 2)) 0x0033_3333 in
    let in_bytes = bit_and (bit_or (in_halves * 2 ^ 2 % 2 ^ 64) (in_halves / 2 ^ 4)) 0x000f_0f0f in
    in_bytes * 0x0100_1001 / 2 ^ 16 % 4096

test_pushed : each_below (λ m. eqb (pushed (apart 12 m)) (turned 12 (apart 12 m))) 4096 ≡ true
unfolding apart turned
test_pushed = refl

test_mask : each_below (λ j. eqb (bit_at 0x0055_5555 (2 * j)) 1) 12 ≡ true
test_mask = refl

pub are_turned : (b : ℕ) → AreTurned b (pushed (bit_and b 0x0055_5555))
unfolding mask
are_turned b =
    let n = bit_and b 0x0055_5555 in
    let m = together 12 b in
    let steps = eqb-true _ _ (each_below-true (λ i. eqb (pushed (apart 12 i)) (turned 12 (apart 12 i))) 4096 m test_pushed (together-lt 12 b)) in
    let is : pushed n ≡ turned 12 n = rw (← masked 12 b) at steps in
    record {
      digit = λ j here.
          ap (λ v. bit_at v (11 - j)) is ∙ turned_digit 12 n j here
          ∙ omega (arith, bit_at_and b 0x0055_5555 (2 * j), bit_at-lt b (2 * j), eqb-true _ _ (each_below-true (λ i. eqb (bit_at 0x0055_5555 (2 * i)) 1) 12 j test_mask here));
      small = rw is (turned-lt 12 n);
    }

-- ---- as many of the digits between them as are zero

-- those of eleven, and a one behind them
abbrev pub groups_of : ℕ → ℕ
groups_of rest = bit_or (bit_and rest 0x002a_aaaa) 0x0040_0000

test_groups : each_below (λ j. eqb (bit_at 0x002a_aaaa (2 * j + 1)) 1) 11 ≡ true
test_groups = refl

pub groups_zero : (rest : ℕ) → (trailing_zeros w64 (groups_of rest) ≤ 22) × ((j : ℕ) → j < trailing_zeros w64 (groups_of rest) / 2 → bit_at rest (2 * j + 1) ≡ 0)
groups_zero rest =
    let groups = groups_of rest in
    let some : 0 < groups = omega (arith, le_or_r (bit_and rest 0x002a_aaaa) 0x0040_0000) in
    let word : groups < 2 ^ 64 = or_lt 64 (bit_and rest 0x002a_aaaa) 0x0040_0000 (omega (arith, and_le_r rest 0x002a_aaaa)) (omega arith) in
    let first = bit_at-trailing_zeros w64 groups some word in
    let most : trailing_zeros w64 groups ≤ 22 = ⊎_elim
    (λ (h : 22 < trailing_zeros w64 groups). absurd (omega (arith, first.2 22 h, bit_at_or (bit_and rest 0x002a_aaaa) 0x0040_0000 22)))
    (λ (h : trailing_zeros w64 groups ≤ 22). h)
    (cases_lt 22 (trailing_zeros w64 groups)) in (
      most,
      λ j here.
          omega (arith, first.2 (2 * j + 1) (omega arith), bit_at_or (bit_and rest 0x002a_aaaa) 0x0040_0000 (2 * j + 1), bit_at_and rest 0x002a_aaaa (2 * j + 1), bit_at-lt rest (2 * j + 1), eqb-true _ _ (each_below-true (λ i. eqb (bit_at 0x002a_aaaa (2 * i + 1)) 1) 11 j test_groups (omega arith))),
    )
