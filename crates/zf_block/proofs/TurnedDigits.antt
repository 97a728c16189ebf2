-- Digits that stand two bits apart, put together and turned, so that the first one is the greatest.
use Rattle.std.proofs.Common.{rules, ◌≡◌, ℕ, zero, suc, ◌+◌, ◌-◌, ◌*◌, ◌/◌, ◌%◌, ◌^◌, ◌<◌, ◌≤◌, ◌==◌, false, ◌∷◌, take, refl, sym, ap, ◌∙◌, arith}
use Rattle.std.{specs.Int.RustNames.{bit_or}, proofs.Math.Nat.{div-one, mod-eq_of_lt}, proofs.Math.Pow.{pow_mono}}
use Rattle.std.proofs.lemmas.Nat.{and_block, or_block, and_mask, or_shifted, or_lt, pow_pos, pow-add, shr-shr, shr_high, shr_split, shl_below, mod_low, mod_below}
use Rattle.std.proofs.lemmas.Nat.Bits.{and_pow}
use lib.Bits.{bit_and}
use Rattle.zf_spec.specs.Numbers.{field, is_odd, digit_value}
use Rattle.zf_spec.proofs.Fields.{sum_below, is_odd-digit_value}
use Rattle.zf_bits.{specs.Reader.{Reader, rest, Reads}, proofs.Reading.{Reads-same}}
use Rattle.zf_planes.{specs.Spread.{lone_code, turned}, proofs.TurnedPairs.{turned-lt}}
use Rattle.zf_block.specs.FirstAlone.{digits_down, ReadsDigits}
use Rattle.zf_block.proofs.FirstAlone.{digits_down-add}

-- ---- the number that they make

-- those behind the first ones lie below them
pub turned-add : (a b n : ℕ) → turned (a + b) n ≡ turned a n * 2 ^ b + turned b (n / 2 ^ (2 * a))
unfolding turned
turned-add zero b n =
    let none : zero + b ≡ b = omega arith in
    rw (none, div-one n) (omega arith)
turned-add (suc a) b n =
    let more : suc a + b ≡ suc (a + b) = omega arith in
    let behind : 2 + 2 * a ≡ 2 * suc a = omega arith in
    let left : n / 4 / 2 ^ (2 * a) ≡ n / 2 ^ (2 * suc a) = shr-shr n 2 (2 * a) ∙ ap (λ k. n / 2 ^ k) behind in
    let rest : turned (a + b) (n / 4) ≡ turned a (n / 4) * 2 ^ b + turned b (n / 2 ^ (2 * suc a)) = turned-add a b (n / 4) ∙ ap (λ m. turned a (n / 4) * 2 ^ b + turned b m) left in
    ap (λ k. turned k n) more ∙ omega (arith, rest, ap (λ p. n % 2 * p) (pow-add 2 a b))

-- ---- parts of w digits each, in lanes of twice as many bits

lanes : ℕ → ℕ → ℕ → ℕ
lanes w zero n = 0
lanes w (suc c) n = lanes w c (n / 2 ^ (2 * w)) * 2 ^ (2 * w) + turned w n

-- the mask of the lower halves of c lanes of 2 k bits
lower : ℕ → ℕ → ℕ
lower k zero = 0
lower k (suc c) = lower k c * 2 ^ (2 * k) + (2 ^ k - 1)

-- the single digits
single : (c n : ℕ) → bit_and n (lower 1 c) ≡ lanes 1 c n
unfolding lanes lower turned
single zero n = search (rules, and_mask n 0)
single (suc c) n =
    let whole : n ≡ n / 4 * 4 + n % 4 = omega arith in
    let block : bit_and (n / 4 * 4 + n % 4) (lower 1 c * 4 + 1) ≡ bit_and (n / 4) (lower 1 c) * 4 + bit_and (n % 4) 1 = and_block 2 (n / 4) (lower 1 c) (n % 4) 1 (omega arith) (omega arith) in
    let low : bit_and (n % 4) 1 ≡ n % 4 % 2 = and_mask (n % 4) 1 in
    ap (λ m. bit_and m (lower 1 c * 4 + 1)) whole ∙ block ∙ omega (arith, single c (n / 4), low)

-- two parts beside one another are put together, the lower one above the other
abbrev joined : ℕ → ℕ → ℕ → ℕ
joined w m x = bit_and (bit_or (x * 2 ^ w) (x / 2 ^ (2 * w))) m

pair : (w x first second m : ℕ) → first < 2 ^ w → second < 2 ^ w
    → joined w (m * 2 ^ (2 * (2 * w)) + (2 ^ (2 * w) - 1)) ((x * 2 ^ (2 * w) + second) * 2 ^ (2 * w) + first) ≡ joined w m x * 2 ^ (2 * (2 * w)) + (first * 2 ^ w + second)
pair w x first second m one two =
    let lane = 2 * w in
    let twice : w + w ≡ lane = omega arith in
    let both : lane + lane ≡ 2 * lane = omega arith in
    let square : 2 ^ lane * 2 ^ lane ≡ 2 ^ (2 * lane) = sym (pow-add 2 lane lane) ∙ ap (λ k. 2 ^ k) both in
    let narrow : 2 ^ w ≤ 2 ^ lane = pow_mono {i = w} {j = lane} (omega arith) in
    let above : first * 2 ^ w < 2 ^ lane = rw twice at (shl_below first w w one) in
    let beside : second * 2 ^ w < 2 ^ lane = rw twice at (shl_below second w w two) in
    let rest = x % 2 ^ lane in
    let cut : rest < 2 ^ lane = mod_below x (2 ^ lane) (pow_pos lane) in
    let left = second * 2 ^ w * 2 ^ lane + first * 2 ^ w in
    let right = rest * 2 ^ lane + second in
    let left_low : left < 2 ^ (2 * lane) = rw both at (sum_below lane lane (second * 2 ^ w) (first * 2 ^ w) beside above) in
    let right_low : right < 2 ^ (2 * lane) = rw both at (sum_below lane lane rest second cut (omega arith)) in
    let up : ((x * 2 ^ lane + second) * 2 ^ lane + first) * 2 ^ w ≡ x * 2 ^ w * 2 ^ (2 * lane) + left = omega (arith, ap (λ p. x * p * 2 ^ w) square) in
    let down : ((x * 2 ^ lane + second) * 2 ^ lane + first) / 2 ^ lane ≡ x / 2 ^ lane * 2 ^ (2 * lane) + right =
    shr_high (x * 2 ^ lane + second) lane first (omega arith) ∙ omega (arith, ap (λ p. x / 2 ^ lane * p) square, ap (λ p. p * 2 ^ lane) (shr_split x lane)) in
    let ored : bit_or left right ≡ bit_or (second * 2 ^ w) rest * 2 ^ lane + bit_or (first * 2 ^ w) second = or_block lane (second * 2 ^ w) rest (first * 2 ^ w) second above (omega arith) in
    let low : bit_and (bit_or left right) (2 ^ lane - 1) ≡ first * 2 ^ w + second =
    and_mask (bit_or left right) lane ∙ ap (λ p. p % 2 ^ lane) ored ∙ mod_low (bit_or (second * 2 ^ w) rest) lane (bit_or (first * 2 ^ w) second) (or_lt lane (first * 2 ^ w) second above (omega arith)) ∙ or_shifted first w second two in
    let mask : 2 ^ lane - 1 < 2 ^ (2 * lane) = let wider : 2 ^ lane ≤ 2 ^ (2 * lane) = pow_mono {i = lane} {j = 2 * lane} (omega arith) in omega (arith, pow_pos lane) in
    ap (λ p. bit_and (bit_or p (((x * 2 ^ lane + second) * 2 ^ lane + first) / 2 ^ lane)) (m * 2 ^ (2 * lane) + (2 ^ lane - 1))) up
    ∙ ap (λ p. bit_and (bit_or (x * 2 ^ w * 2 ^ (2 * lane) + left) p) (m * 2 ^ (2 * lane) + (2 ^ lane - 1))) down
    ∙ ap (λ p. bit_and p (m * 2 ^ (2 * lane) + (2 ^ lane - 1))) (or_block (2 * lane) (x * 2 ^ w) (x / 2 ^ lane) left right left_low right_low)
    ∙ and_block (2 * lane) (bit_or (x * 2 ^ w) (x / 2 ^ lane)) m (bit_or left right) (2 ^ lane - 1) (or_lt (2 * lane) left right left_low right_low) mask
    ∙ ap (λ p. joined w m x * 2 ^ (2 * lane) + p) low

pairs : (w c n : ℕ) → joined w (lower (2 * w) c) (lanes w (2 * c) n) ≡ lanes (2 * w) c n
unfolding lanes lower
pairs w zero n = search (rules, and_mask (bit_or (0 * 2 ^ w) (0 / 2 ^ (2 * w))) 0)
pairs w (suc c) n =
    let lane = 2 * w in
    let more : 2 * suc c ≡ suc (suc (2 * c)) = omega arith in
    let both : lane + lane ≡ 2 * lane = omega arith in
    let twice : w + w ≡ lane = omega arith in
    let behind = n / 2 ^ lane / 2 ^ lane in
    let far : behind ≡ n / 2 ^ (2 * lane) = shr-shr n lane lane ∙ ap (λ k. n / 2 ^ k) both in
    let wide : turned w n * 2 ^ w + turned w (n / 2 ^ lane) ≡ turned lane n = sym (turned-add w w n) ∙ ap (λ k. turned k n) twice in
    ap (λ k. joined w (lower lane (suc c)) (lanes w k n)) more
    ∙ pair w (lanes w (2 * c) behind) (turned w n) (turned w (n / 2 ^ lane)) (lower lane c) (turned-lt w n) (turned-lt w (n / 2 ^ lane))
    ∙ ap (λ p. p * 2 ^ (2 * lane) + (turned w n * 2 ^ w + turned w (n / 2 ^ lane))) (pairs w c behind ∙ ap (lanes lane c) far)
    ∙ ap (λ p. lanes lane c (n / 2 ^ (2 * lane)) * 2 ^ (2 * lane) + p) wide

-- in a word no digit is lost
within : (w c n : ℕ) → lanes w c n * 2 ^ w < 2 ^ (2 * w * c)
unfolding lanes
within w zero n = omega (arith, pow_pos (2 * w * 0))
within w (suc c) n =
    let lane = 2 * w in
    let twice : w + w ≡ lane = omega arith in
    let more : lane * c + lane ≡ lane * suc c = omega arith in
    let low : turned w n * 2 ^ w < 2 ^ lane = rw twice at (shl_below (turned w n) w w (turned-lt w n)) in
    let all = rw more at (sum_below (lane * c) lane (lanes w c (n / 2 ^ lane) * 2 ^ w) (turned w n * 2 ^ w) (within w c (n / 2 ^ lane)) low) in
    omega (arith, all)

abbrev step : ℕ → ℕ → ℕ → ℕ
step w m x = bit_and (bit_or (x * 2 ^ w % 2 ^ 64) (x / 2 ^ (2 * w))) m

in_word : (w c n : ℕ) → 2 * w * (2 * c) ≡ 64 → step w (lower (2 * w) c) (lanes w (2 * c) n) ≡ lanes (2 * w) c n
in_word w c n all =
    let fits : lanes w (2 * c) n * 2 ^ w < 2 ^ 64 = rw all at (within w (2 * c) n) in
    ap (λ p. bit_and (bit_or p (lanes w (2 * c) n / 2 ^ (2 * w))) (lower (2 * w) c)) (mod-eq_of_lt fits) ∙ pairs w c n

pub turned_32 : (n : ℕ) → step 16 0xffff_ffff (step 8 0x0000_ffff_0000_ffff (step 4 0x00ff_00ff_00ff_00ff (step 2 0x0f0f_0f0f_0f0f_0f0f (step 1 0x3333_3333_3333_3333 (bit_and n 0x5555_5555_5555_5555))))) ≡ turned 32 n
unfolding lanes lower
turned_32 n =
    let two : step 1 0x3333_3333_3333_3333 (bit_and n 0x5555_5555_5555_5555) ≡ lanes 2 16 n = ap (step 1 0x3333_3333_3333_3333) (single 32 n) ∙ in_word 1 16 n refl in
    let four : step 2 0x0f0f_0f0f_0f0f_0f0f (lanes 2 16 n) ≡ lanes 4 8 n = in_word 2 8 n refl in
    let eight : step 4 0x00ff_00ff_00ff_00ff (lanes 4 8 n) ≡ lanes 8 4 n = in_word 4 4 n refl in
    let sixteen : step 8 0x0000_ffff_0000_ffff (lanes 8 4 n) ≡ lanes 16 2 n = in_word 8 2 n refl in
    let all : step 16 0xffff_ffff (lanes 16 2 n) ≡ turned 32 n = in_word 16 1 n refl ∙ omega arith in
    rw (two, four, eight, sixteen) all

-- ---- the group bits between them

pub group_bits : ℕ → ℕ
group_bits zero = 0
group_bits (suc k) = group_bits k * 4 + 2

fewer : (m k : ℕ) → group_bits (m + k) / 2 ^ m / 2 ^ m ≡ group_bits k
unfolding group_bits
fewer zero k =
    let none : zero + k ≡ k = omega arith in
    rw none (omega arith)
fewer (suc m) k =
    let more : suc m + k ≡ suc (m + k) = omega arith in
    let far : suc m + suc m ≡ 2 + (m + m) = omega arith in
    let groups = group_bits (suc (m + k)) in
    let one : groups / 4 ≡ group_bits (m + k) = omega arith in
    ap (λ j. group_bits j / 2 ^ suc m / 2 ^ suc m) more
    ∙ shr-shr groups (suc m) (suc m) ∙ ap (λ j. groups / 2 ^ j) far ∙ sym (shr-shr groups 2 (m + m)) ∙ sym (shr-shr (groups / 4) m m)
    ∙ ap (λ g. g / 2 ^ m / 2 ^ m) one ∙ fewer m k

pub group_bits_shown : (m k : ℕ) → m + k ≡ 32 → 0xaaaa_aaaa_aaaa_aaaa / 2 ^ m / 2 ^ m ≡ group_bits k
unfolding group_bits
group_bits_shown m k all = ap (λ j. group_bits j / 2 ^ m / 2 ^ m) (sym all) ∙ fewer m k

pub lone_digits : (k n : ℕ) → bit_and n (group_bits k) ≡ 0 → field (2 * k) n ≡ lone_code (digits_down k (turned k n))
unfolding turned group_bits
lone_digits zero n clear = refl
lone_digits (suc k) n clear =
    let d = n % 2 in
    let below = turned k (n / 4) in
    let whole : n ≡ n / 4 * 4 + n % 4 = omega arith in
    let block : bit_and (n / 4 * 4 + n % 4) (group_bits k * 4 + 2) ≡ bit_and (n / 4) (group_bits k) * 4 + bit_and (n % 4) 2 = and_block 2 (n / 4) (group_bits k) (n % 4) 2 (omega arith) (omega arith) in
    let none : bit_and (n / 4) (group_bits k) * 4 + bit_and (n % 4) 2 ≡ 0 = sym (ap (λ m. bit_and m (group_bits k * 4 + 2)) whole ∙ block) ∙ clear in
    let rest : bit_and (n / 4) (group_bits k) ≡ 0 = omega (arith, none) in
    let group : bit_and (n % 4) 2 ≡ n % 4 / 2 % 2 * 2 = and_pow (n % 4) 1 in
    let twice : 2 * suc k ≡ suc (suc (2 * k)) = omega arith in
    let four : n / 2 / 2 ≡ n / 4 = omega arith in
    let first : is_odd n ≡ is_odd d = let same : d ≡ d % 2 = omega arith in ap (λ j. j == 1) same in
    let second : is_odd (n / 2) ≡ false = let even : n / 2 ≡ digit_value false + 2 * (n / 4) = omega (arith, none, group) in ap is_odd even ∙ is_odd-digit_value false (n / 4) in
    let one : 1 + k ≡ suc k = omega arith in
    let down : digits_down (suc k) (d * 2 ^ k + below) ≡ is_odd d ∷ digits_down k below = ap (λ j. digits_down j (d * 2 ^ k + below)) (sym one) ∙ digits_down-add 1 k d below (turned-lt k (n / 4)) in
    cc (lone_digits k (n / 4) rest)

-- those of a word, which is looked at
pub digits_read : {old new : Reader} (word count u : ℕ) → bit_and word (group_bits count) ≡ 0 → u ≡ turned count word → field (2 * count) word ≡ take (2 * count) (rest old) → Reads old new (take (2 * count) (rest old))
    → ReadsDigits count u old new
digits_read word count u clear is seen reads =
    record { reads = Reads-same reads (sym seen ∙ lone_digits count word clear ∙ ap (λ v. lone_code (digits_down count v)) (sym is)); small = rw is (turned-lt count word) }
