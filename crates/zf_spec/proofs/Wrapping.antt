-- Numbers that agree modulo a power of two, and the wrapped number.
use Rattle.std.proofs.Common.{◌≡◌, sym, ap, ◌∙◌, ℕ, zero, suc, ◌+◌, ◌-◌, ◌/◌, ◌%◌, ◌^◌, ◌<◌, ℤ, pos, negsuc, ◌+ℤ◌, ◌*ℤ◌, neg_ℤ, FitsSigned, mod-lt, div-add-mod', pow_pos, pow-add, mul-le-mul_left, zero-lt-suc, arith, ⊎_elim, lt-ltb, le-ltb}
use Rattle.std.{proofs.lemmas.Int.{ints, SFits-int_wrap}, specs.Int.{Width, int_wrap, cast_signed}}
use Rattle.std.{proofs.Math.IntN.{zero-*ℤ}, proofs.lemmas.Bool.{cases_lt}}
use mir.Val.{bits, hbits}
use Rattle.zf_spec.{specs.Numbers.{wrap, IsSameModulo}, proofs.Ring.{add-*ℤ, *ℤ-add, *ℤ_assoc, neg-*ℤ}}

-- ---- numbers that agree modulo 2^k

pub same_modulo_refl : (k : ℕ) (n : ℤ) → IsSameModulo k n n
same_modulo_refl k n = (pos 0, omega (arith, ints, zero-*ℤ (pos (2 ^ k))))

pub same_modulo_sym : (k : ℕ) (m n : ℤ) → IsSameModulo k m n → IsSameModulo k n m
same_modulo_sym k m n h = (neg_ℤ h.0, omega (arith, ints, h.1, neg-*ℤ h.0 (pos (2 ^ k))))

pub same_modulo_trans : (k : ℕ) (l m n : ℤ) → IsSameModulo k l m → IsSameModulo k m n → IsSameModulo k l n
same_modulo_trans k l m n f g = (f.0 +ℤ g.0, omega (arith, ints, f.1, g.1, add-*ℤ f.0 g.0 (pos (2 ^ k))))

pub same_modulo_add : (k : ℕ) (a b c d : ℤ) → IsSameModulo k a b → IsSameModulo k c d → IsSameModulo k (a +ℤ c) (b +ℤ d)
same_modulo_add k a b c d f g = (f.0 +ℤ g.0, omega (arith, ints, f.1, g.1, add-*ℤ f.0 g.0 (pos (2 ^ k))))

pub same_modulo_neg : (k : ℕ) (a b : ℤ) → IsSameModulo k a b → IsSameModulo k (neg_ℤ a) (neg_ℤ b)
same_modulo_neg k a b f = (neg_ℤ f.0, omega (arith, ints, f.1, neg-*ℤ f.0 (pos (2 ^ k))))

pub same_modulo_mul : (k : ℕ) (c a b : ℤ) → IsSameModulo k a b → IsSameModulo k (c *ℤ a) (c *ℤ b)
same_modulo_mul k c a b f =
    (c *ℤ f.0, ap (λ n. c *ℤ n) f.1 ∙ *ℤ-add c b (f.0 *ℤ pos (2 ^ k)) ∙ ap (λ n. c *ℤ b +ℤ n) (sym (*ℤ_assoc c f.0 (pos (2 ^ k)))))

-- numbers that agree modulo 2^(j + k) agree modulo 2^k
pub same_modulo_low : (j k : ℕ) (a b : ℤ) → IsSameModulo (j + k) a b → IsSameModulo k a b
same_modulo_low j k a b f =
    (f.0 *ℤ pos (2 ^ j), f.1 ∙ ap (λ n. b +ℤ n) (ap (λ n. f.0 *ℤ pos n) (pow-add 2 j k) ∙ sym (*ℤ_assoc f.0 (pos (2 ^ j)) (pos (2 ^ k)))))

-- ---- the wrapped number

pub bits_is_half : (w : Width) → 2 ^ bits w ≡ 2 ^ hbits w + 2 ^ hbits w
bits_is_half w = grind arith

-- bits read as signed differ from the bits by a multiple of 2^w
signed_is_same : (w : Width) (n : ℕ) → n < 2 ^ bits w → IsSameModulo (bits w) (cast_signed w n) (pos n)
signed_is_same w n h = ⊎_elim
    (λ (low : n < 2 ^ hbits w). rw (lt-ltb n (2 ^ hbits w) low) (same_modulo_refl (bits w) (pos n)))
    (λ high. rw (le-ltb n (2 ^ hbits w) high) (negsuc 0, omega (arith, ints)))
    (cases_lt n (2 ^ hbits w))

pub wrap_is_same : (w : Width) (n : ℤ) → IsSameModulo (bits w) (wrap w n) n
unfolding int_wrap
wrap_is_same w (pos n) =
    let m = 2 ^ bits w in
    same_modulo_trans (bits w) (wrap w (pos n)) (pos (n % m)) (pos n)
    (signed_is_same w (n % m) (mod-lt n (pow_pos (bits w))))
    (neg_ℤ (pos (n / m)), omega (arith, ints, div-add-mod' n m, neg-*ℤ (pos (n / m)) (pos m)))
wrap_is_same w (negsuc n) =
    let m = 2 ^ bits w in
    same_modulo_trans (bits w) (wrap w (negsuc n)) (pos (m - 1 - n % m)) (negsuc n)
    (signed_is_same w (m - 1 - n % m) (omega (arith, mod-lt n (pow_pos (bits w)))))
    (pos (n / m + 1), omega (arith, ints, div-add-mod' n m, mod-lt n (pow_pos (bits w))))

pub wrap_fits : (w : Width) (n : ℤ) → FitsSigned w (wrap w n)
wrap_fits w n = SFits-int_wrap w n

-- two values of the type that agree modulo 2^w are equal
pub same_value : (w : Width) (u v : ℤ) → FitsSigned w u → FitsSigned w v → IsSameModulo (bits w) u v → u ≡ v
same_value w u v f g (pos zero, e) = omega (arith, ints, e, zero-*ℤ (pos (2 ^ bits w)))
same_value w u v f g (pos (suc q), e) = absurd (omega (arith, ints, e, bits_is_half w, mul-le-mul_left (2 ^ bits w) (zero-lt-suc q)))
same_value w u v f g (negsuc q, e) = absurd (omega (arith, ints, e, bits_is_half w, mul-le-mul_left (2 ^ bits w) (zero-lt-suc q)))

-- the wrapped number is the only value of the type that agrees with n modulo 2^w
pub wrap_only : (w : Width) (n v : ℤ) → FitsSigned w v → IsSameModulo (bits w) v n → v ≡ wrap w n
wrap_only w n v f h = same_value w v (wrap w n) f (wrap_fits w n) (same_modulo_trans (bits w) v n (wrap w n) h (same_modulo_sym (bits w) (wrap w n) n (wrap_is_same w n)))

-- a value of the type is not changed
pub wrap_value : (w : Width) (v : ℤ) → FitsSigned w v → wrap w v ≡ v
wrap_value w v f = sym (wrap_only w v v f (same_modulo_refl (bits w) v))

pub zero_fits : (w : Width) → FitsSigned w (pos 0)
zero_fits w = record { sfits = pow_pos (hbits w) }

pub wrap_from_same : (w : Width) (m n : ℤ) → IsSameModulo (bits w) m n → wrap w m ≡ wrap w n
wrap_from_same w m n h = wrap_only w n (wrap w m) (wrap_fits w m) (same_modulo_trans (bits w) (wrap w m) m n (wrap_is_same w m) h)
