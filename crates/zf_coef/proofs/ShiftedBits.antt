-- Bits of words that are shifted, cut and put together.
use Rattle.std.proofs.Common.{rules, ◌≡◌, ap, ◌∙◌, ℕ, ◌+◌, ◌-◌, ◌*◌, ◌/◌, ◌%◌, ◌^◌, ◌<◌, ◌≤◌, mod-lt, arith}
use Rattle.std.{specs.Int.{bit_at}, specs.Int.RustNames.{bit_or}, proofs.Math.Pow.{mod-mod-pow}}
use Rattle.std.proofs.lemmas.Nat.{shr-shr, field_of, pow_pos, and_mask}
use Rattle.std.proofs.lemmas.Nat.Bits.{bit_at_or, bit_at_cat_low, bit_at_cat_high, bit_at-zero, bit_at_above}
use lib.Bits.{bit_and}
use Rattle.zf_coef.specs.Groups.{IsMoved}

pub bit_at-shr : (a s i : ℕ) → bit_at (a / 2 ^ s) i ≡ bit_at a (s + i)
bit_at-shr a s i = ap (λ n. n % 2) (shr-shr a s i)

pub bit_at-mod_pow : (a w i : ℕ) → i < w → bit_at (a % 2 ^ w) i ≡ bit_at a i
bit_at-mod_pow a w i h =
    let whole : (w - i) + i ≡ w = omega arith in
    let cut = rw whole at (field_of a (w - i) i) in
    let last : (w - i - 1) + 1 ≡ w - i = omega arith in
    ap (λ n. n % 2) cut ∙ (rw last at (mod-mod-pow (a / 2 ^ i) (w - i - 1) 1))

pub bit_at-mod_above : (a w i : ℕ) → w ≤ i → bit_at (a % 2 ^ w) i ≡ 0
bit_at-mod_above a w i h = bit_at_above (a % 2 ^ w) w i (mod-lt a (pow_pos w)) h

pub bit_at-mod : (a i : ℕ) → i < 64 → bit_at (a % 2 ^ 64) i ≡ bit_at a i
bit_at-mod a i h = bit_at-mod_pow a 64 i h

pub bit_at-shl_low : (a s i : ℕ) → i < s → bit_at (a * 2 ^ s) i ≡ 0
bit_at-shl_low a s i h = search (rules, bit_at_cat_low a s 0 i h, bit_at-zero)

pub bit_at-shl_high : (a s i : ℕ) → s ≤ i → bit_at (a * 2 ^ s) i ≡ bit_at a (i - s)
bit_at-shl_high a s i h = search (rules, bit_at_cat_high a s 0 i (pow_pos s) h)

-- the w lowest bits of a word and, above them, another
pub low_part : (w a b i : ℕ) → i < w → i < 64 → bit_at (bit_or (bit_and a (2 ^ w - 1)) (b * 2 ^ w % 2 ^ 64)) i ≡ bit_at a i
low_part w a b i low h = search (rules, bit_at_or, and_mask, bit_at-mod_pow, bit_at-mod, bit_at-shl_low)

pub high_part : (w a b i : ℕ) → w ≤ i → i < 64 → bit_at (bit_or (bit_and a (2 ^ w - 1)) (b * 2 ^ w % 2 ^ 64)) i ≡ bit_at b (i - w)
high_part w a b i high h = search (rules, bit_at_or, and_mask, bit_at-mod_above, bit_at-mod, bit_at-shl_high)

-- the same of the high half of a word and that of another
pub low_of_high : (a b i : ℕ) → a < 2 ^ 64 → i < 32 → bit_at (bit_or (a / 0x1_0000_0000) (b / 0x1_0000_0000 * 0x1_0000_0000 % 2 ^ 64)) i ≡ bit_at a (32 + i)
low_of_high a b i word h =
    let high = bit_at-shl_low (b / 2 ^ 32) 32 i h in
    omega (arith, bit_at_or (a / 0x1_0000_0000) (b / 0x1_0000_0000 * 0x1_0000_0000 % 2 ^ 64) i, bit_at-shr a 32 i, bit_at-mod (b / 2 ^ 32 * 2 ^ 32) i (omega arith), high)

pub high_of_high : (a b i : ℕ) → a < 2 ^ 64 → i < 32 → bit_at (bit_or (a / 0x1_0000_0000) (b / 0x1_0000_0000 * 0x1_0000_0000 % 2 ^ 64)) (32 + i) ≡ bit_at b (32 + i)
high_of_high a b i word h =
    let back : 32 + i - 32 ≡ i = omega arith in
    let none = bit_at_above a 64 (32 + (32 + i)) word (omega arith) in
    let high = bit_at-shl_high (b / 2 ^ 32) 32 (32 + i) (omega arith) ∙ ap (bit_at (b / 2 ^ 32)) back ∙ bit_at-shr b 32 i in
    omega (arith, bit_at_or (a / 0x1_0000_0000) (b / 0x1_0000_0000 * 0x1_0000_0000 % 2 ^ 64) (32 + i), bit_at-shr a 32 (32 + i), none, bit_at-mod (b / 2 ^ 32 * 2 ^ 32) (32 + i) (omega arith), high)

-- bits of a word that are moved up, where those that move are below 2^32
moved_part : (start from a part : ℕ) → from ≤ 32 → ((i : ℕ) → i < 32 → bit_at part i ≡ bit_at a (start + i))
    → ((i : ℕ) → 32 ≤ i → i < 64 → bit_at part i ≡ 0) → IsMoved start from a (part * 2 ^ from % 2 ^ 64)
moved_part start from a part few same none = record {
  inside = search (rules, bit_at-mod, bit_at-shl_high);
  below = λ i h. bit_at-mod (part * 2 ^ from) i (omega arith) ∙ bit_at-shl_low part from i h;
  above = λ i h small. bit_at-mod (part * 2 ^ from) i small ∙ bit_at-shl_high part from i (omega arith) ∙ none (i - from) (omega arith) (omega arith);
}

-- the low half of a word
pub low_half_moved : (a from : ℕ) → from ≤ 32 → IsMoved 0 from a (bit_and a 0xffff_ffff * 2 ^ from % 2 ^ 64)
low_half_moved a from few = moved_part 0 from a (bit_and a 0xffff_ffff) few
    (λ i h. let at : i ≡ 0 + i = omega arith in ap (λ n. bit_at n i) (and_mask a 32) ∙ bit_at-mod_pow a 32 i h ∙ ap (bit_at a) at)
    (λ i h small. ap (λ n. bit_at n i) (and_mask a 32) ∙ bit_at-mod_above a 32 i h)

-- its high half
pub high_half_moved : (a from : ℕ) → a < 2 ^ 64 → from ≤ 32 → IsMoved 32 from a (a / 0x1_0000_0000 * 2 ^ from % 2 ^ 64)
high_half_moved a from word few = moved_part 32 from a (a / 2 ^ 32) few
    (λ i h. bit_at-shr a 32 i)
    (λ i h small. bit_at-shr a 32 i ∙ bit_at_above a 64 (32 + i) word (omega arith))
