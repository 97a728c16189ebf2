-- A word whose odd digits are flipped by a mask: the number that its digits stand for is the word less the mask.
use Rattle.std.proofs.Common.{rules, ◌≡◌, refl, sym, ap, subst, ◌∙◌, ℕ, zero, suc, ◌+◌, ◌-◌, ◌*◌, ◌/◌, ◌%◌, ◌^◌, ◌<◌, ◌≤◌, ℤ, pos, negsuc, ◌+ℤ◌, ◌*ℤ◌, neg_ℤ, FitsSigned, ◌⊎◌, ⊎_elim, lit≤, pow_pos, mod-lt, div-add-mod', arith}
use Rattle.std.{proofs.lemmas.Int.{ints, of_z-to_z}, specs.Int.{Width, w32, w64, cast_unsigned, int_wrap}}
use Rattle.std.specs.Int.Bits.{bit_xor, xor_self, xor_assoc, xor_zero_r}
use Rattle.std.proofs.lemmas.Nat.{xor_block, mod-pow-add}
use mir.Val.{bits}
use Rattle.zf_spec.specs.Numbers.{wrap, IsSameModulo, digits_sum, digits, value_of, field}
use Rattle.zf_spec.{proofs.Halves.{digit_value-is_odd}, proofs.Fields.{length-field, field-mod}}
use Rattle.zf_spec.{proofs.Negabinary.{digits_only}, proofs.Ring.{neg-*ℤ}}
use Rattle.zf_spec.proofs.Wrapping.{same_modulo_refl, same_modulo_sym, same_modulo_trans, same_modulo_add, same_modulo_neg, same_modulo_low, bits_is_half, wrap_from_same}

-- how many digits so many pairs have
abbrev pub twice : ℕ → ℕ
twice zero = 0
twice (suc m) = suc (suc (twice m))

-- a one in the second digit of each pair
abbrev pub mask : ℕ → ℕ
mask zero = 0
mask (suc m) = mask m * 4 + 2

-- ---- one pair of digits

-- the digits of a pair are those of its number, and those of the number above it follow
pair_digits : (k x s : ℕ) → s < 4 → digits_sum (field (suc (suc k)) (x * 4 + s)) ≡ (pos (s % 2) +ℤ neg_ℤ (pos (2 * (s / 2)))) +ℤ pos 4 *ℤ digits_sum (field k x)
pair_digits k x s h =
    let n = x * 4 + s in
    let low = digit_value-is_odd n in
    let high = digit_value-is_odd (n / 2) in
    let above : n / 2 / 2 ≡ x = omega arith in
    let rest = ap (λ y. digits_sum (field k y)) above in
    omega (arith, ints, low, high, rest)

-- the pair r, with its second digit flipped, stands for r less 2
pair_sum : (k x r : ℕ) → r < 4 → digits_sum (field (suc (suc k)) (x * 4 + bit_xor r 2)) ≡ (pos r +ℤ neg_ℤ (pos 2)) +ℤ pos 4 *ℤ digits_sum (field k x)
pair_sum k x zero h = pair_digits k x 2 (omega arith) ∙ omega (arith, ints)
pair_sum k x (suc zero) h = pair_digits k x 3 (omega arith) ∙ omega (arith, ints)
pair_sum k x (suc (suc zero)) h = pair_digits k x 0 (omega arith) ∙ omega (arith, ints)
pair_sum k x r h = let three : r ≡ 3 = omega arith in rw three (pair_digits k x 1 (omega arith) ∙ omega (arith, ints))

-- ---- all pairs

-- digits that a mask of at least as many pairs flips stand for the word that they were, less the mask
pub flipped_sum : (m k y : ℕ) → m ≤ k → digits_sum (field (twice m) (bit_xor y (mask k))) ≡ pos (y % 2 ^ twice m) +ℤ neg_ℤ (pos (mask m))
flipped_sum zero k y h = let e : y % 2 ^ 0 ≡ 0 = omega arith in rw e refl
flipped_sum (suc m) zero y h = absurd (omega arith)
flipped_sum (suc m) (suc k) y h =
    let x = bit_xor (y / 4) (mask k) in
    let split : y ≡ y / 4 * 4 + y % 4 = omega arith in
    let block : bit_xor (y / 4 * 4 + y % 4) (mask k * 4 + 2) ≡ x * 4 + bit_xor (y % 4) 2 = xor_block 2 (y / 4) (mask k) (y % 4) 2 (omega arith) (omega arith) in
    let pair = pair_sum (twice m) x (y % 4) (omega arith) in
    let rest = flipped_sum m k (y / 4) (omega arith) in
    let more : twice (suc m) ≡ twice m + 2 = omega arith in
    let low : y % 2 ^ twice (suc m) ≡ y / 4 % 2 ^ twice m * 4 + y % 4 = rw more (mod-pow-add y (twice m) 2) in
    let whole : bit_xor y (mask (suc k)) ≡ x * 4 + bit_xor (y % 4) 2 = cc in
    rw whole (pair ∙ omega (arith, ints, rest, low))

-- ---- the mask of 64 digits at both widths

-- a width of so many pairs, on which the mask of 64 digits is the mask of these pairs
record IsPaired (w : Width) : Type 0 where
  pairs : ℕ
  few : pairs ≤ 32
  size : twice pairs ≡ bits w
  within : bits w ≤ 64
  same : IsSameModulo (bits w) (pos (mask pairs)) (pos (mask 32))

paired_32 : IsPaired w32
paired_32 = record { pairs = 16; few = lit≤ tt; size = refl; within = lit≤ tt; same = (neg_ℤ (pos (mask 16)), refl) }

paired_64 : IsPaired w64
paired_64 = record { pairs = 32; few = lit≤ tt; size = refl; within = lit≤ tt; same = same_modulo_refl 64 (pos (mask 32)) }

paired : (w : Width) → (w ≡ w32) ⊎ (w ≡ w64) → IsPaired w
paired w sized = ⊎_elim (λ e. subst IsPaired (sym e) paired_32) (λ e. subst IsPaired (sym e) paired_64) sized

same_modulo_mod : (k x : ℕ) → IsSameModulo k (pos (x % 2 ^ k)) (pos x)
same_modulo_mod k x = (neg_ℤ (pos (x / 2 ^ k)), omega (arith, ints, neg-*ℤ (pos (x / 2 ^ k)) (pos (2 ^ k)), div-add-mod' x (2 ^ k)))

same_modulo_word : (w : Width) (v : ℤ) → FitsSigned w v → IsSameModulo (bits w) (pos (cast_unsigned w v)) v
same_modulo_word w (pos n) f = same_modulo_refl (bits w) (pos n)
same_modulo_word w (negsuc n) f = (pos 1, omega (arith, ints, f.sfits, bits_is_half w))

-- what agrees modulo 2^64 agrees modulo 2^w
same_modulo_width : (w : Width) (p : IsPaired w) (a b : ℤ) → IsSameModulo 64 a b → IsSameModulo (bits w) a b
same_modulo_width w p a b h =
    let e : 64 ≡ (64 - bits w) + bits w = omega arith in
    same_modulo_low (64 - bits w) (bits w) a b (subst (λ k. IsSameModulo k a b) e h)

-- the number that flipped digits stand for
flipped_value : (w : Width) (p : IsPaired w) (y : ℕ) → IsSameModulo (bits w) (digits_sum (field (bits w) (bit_xor y (mask 32)))) (pos y +ℤ neg_ℤ (pos (mask 32)))
flipped_value w p y =
    let exact = rw p.size at (flipped_sum p.pairs 32 y p.few) in
    rw exact
    (same_modulo_add (bits w) (pos (y % 2 ^ bits w)) (pos y) (neg_ℤ (pos (mask p.pairs)))
    (neg_ℤ (pos (mask 32))) (same_modulo_mod (bits w) y)
    (same_modulo_neg (bits w) (pos (mask p.pairs)) (pos (mask 32)) p.same))

-- the word of a wrapped number
word-wrap : (w : Width) (x : ℕ) → cast_unsigned w (wrap w (pos x)) ≡ x % 2 ^ bits w
unfolding int_wrap
word-wrap w x = of_z-to_z w (x % 2 ^ bits w) (mod-lt x (pow_pos (bits w)))

-- the bits of (v + M) xor M are the digits of v
pub field-masked : (w : Width) → (w ≡ w32) ⊎ (w ≡ w64) → (v : ℤ) → FitsSigned w v
    → field (bits w) (bit_xor ((cast_unsigned w v + 0xaaaa_aaaa_aaaa_aaaa) % 2 ^ 64) 0xaaaa_aaaa_aaaa_aaaa) ≡ digits (bits w) v
field-masked w sized v fits =
    let p = paired w sized in
    let u = cast_unsigned w v in
    let y = (u + mask 32) % 2 ^ 64 in
    let wide = same_modulo_width w p (pos y) (pos (u + mask 32)) (same_modulo_mod 64 (u + mask 32)) in
    let back = same_modulo_add (bits w) (pos y) (pos (u + mask 32)) (neg_ℤ (pos (mask 32))) (neg_ℤ (pos (mask 32))) wide (same_modulo_refl (bits w) (neg_ℤ (pos (mask 32)))) in
    let e : pos (u + mask 32) +ℤ neg_ℤ (pos (mask 32)) ≡ pos u = omega (arith, ints) in
    let word : IsSameModulo (bits w) (pos y +ℤ neg_ℤ (pos (mask 32))) (pos u) = subst (λ n. IsSameModulo (bits w) (pos y +ℤ neg_ℤ (pos (mask 32))) n) e back in
    search (rules, digits_only, length-field, same_modulo_trans, flipped_value, same_modulo_word)

-- (u xor M) - M is the value of the digits of u
pub wrap-unmasked : (w : Width) → (w ≡ w32) ⊎ (w ≡ w64) → (u : ℕ)
    → wrap w (pos ((bit_xor u 0xaaaa_aaaa_aaaa_aaaa + (2 ^ 64 - 0xaaaa_aaaa_aaaa_aaaa)) % 2 ^ 64)) ≡ value_of w (field (bits w) u)
wrap-unmasked w sized u =
    let p = paired w sized in
    let y = bit_xor u (mask 32) in
    let c = 2 ^ 64 - mask 32 in
    let twice_flipped : bit_xor y (mask 32) ≡ u = rw (xor_assoc, xor_self, xor_zero_r) refl in
    let low = same_modulo_mod 64 (y + c) in
    let wide : IsSameModulo 64 (pos ((y + c) % 2 ^ 64)) (pos y +ℤ neg_ℤ (pos (mask 32))) =
    same_modulo_trans 64 (pos ((y + c) % 2 ^ 64)) (pos (y + c)) (pos y +ℤ neg_ℤ (pos (mask 32))) low (pos 1, omega (arith, ints)) in
    let digits_of_u : IsSameModulo (bits w) (digits_sum (field (bits w) u)) (pos y +ℤ neg_ℤ (pos (mask 32))) =
    subst (λ x. IsSameModulo (bits w) (digits_sum (field (bits w) x)) (pos y +ℤ neg_ℤ (pos (mask 32)))) twice_flipped (flipped_value w p y) in
    search (rules, wrap_from_same, same_modulo_trans, same_modulo_width, same_modulo_sym)

-- the digits of a word of the type are those of the longer word that it is left of
pub field-word : (w : Width) (x : ℕ) → field (bits w) (cast_unsigned w (wrap w (pos x))) ≡ field (bits w) x
field-word w x = ap (field (bits w)) (word-wrap w x) ∙ field-mod (bits w) x
