-- Words that carry a bias: each is a number and its bias, modulo 2^64. Steps on words are steps on their numbers.
use Rattle.std.proofs.Common.{◌≡◌, ◌⊎◌, inl, inr, ap, ◌∙◌, ℤ, pos, negsuc, ℕ, suc, ◌<◌, ◌+◌, ◌-◌, ◌/◌, ◌%◌, ◌^◌, ◌+ℤ◌, ◌-ℤ◌, ◌*ℤ◌, FitsSigned, arith}
use Rattle.std.{proofs.lemmas.Int.{ints}, specs.Int.{Width, w32, w64, cast_unsigned}}
use mir.Val.{bits}
use Rattle.zf_spec.specs.Numbers.{wrap, half, floor_half}
use Rattle.zf_spec.proofs.Wrapping.{wrap_is_same, wrap_fits, wrap_from_same, wrap_value}

pub record Carries (bias word : ℕ) (n : ℤ) : Type 0 where
  pub small : bias < 2 ^ 64
  pub below : word < 2 ^ 64
  pub turns : ℤ
  pub is : pos word ≡ n +ℤ pos bias +ℤ turns *ℤ pos (2 ^ 64)

pub carries-wrap : {a m : ℕ} {v : ℤ} → Carries a m v → Carries a m (wrap w64 v)
carries-wrap {a} {m} {v} f = let same = wrap_is_same w64 v in record { small = f.small; below = f.below; turns = f.turns -ℤ same.0; is = omega (arith, ints, same.1) }

pub carries-itself : (m : ℕ) → m < 2 ^ 64 → Carries 0 m (wrap w64 (pos m))
carries-itself m below = carries-wrap (record { small = omega arith; below = below; turns = pos 0; is = omega (arith, ints) })

pub carries-add : {a b l m : ℕ} {u v : ℤ} → Carries a l u → Carries b m v → Carries ((a + b) % 2 ^ 64) ((l + m) % 2 ^ 64) (u +ℤ v)
carries-add {a} {b} {l} {m} {u} {v} f g =
    record { small = omega arith; below = omega arith; turns = f.turns +ℤ g.turns +ℤ pos ((a + b) / 2 ^ 64) -ℤ pos ((l + m) / 2 ^ 64); is = omega (arith, ints) }

pub carries-sub : {a b l m : ℕ} {u v : ℤ} → Carries a l u → Carries b m v
    → Carries ((a + (2 ^ 64 - b)) % 2 ^ 64) ((l + (2 ^ 64 - m)) % 2 ^ 64) (u -ℤ v)
carries-sub {a} {b} {l} {m} {u} {v} f g =
    let turns = f.turns -ℤ g.turns +ℤ pos ((a + (2 ^ 64 - b)) / 2 ^ 64) -ℤ pos ((l + (2 ^ 64 - m)) / 2 ^ 64) in
    record { small = omega arith; below = omega arith; turns = turns; is = omega (arith, ints) }

-- where a word is moved, so is its bias
pub carries-moved : {a m : ℕ} {v : ℤ} (k : ℕ) → Carries a m v → Carries ((a + k) % 2 ^ 64) ((m + k) % 2 ^ 64) v
carries-moved {a} {m} {v} k f =
    record { small = omega arith; below = omega arith; turns = f.turns +ℤ pos ((a + k) / 2 ^ 64) -ℤ pos ((m + k) / 2 ^ 64); is = omega (arith, ints) }

-- a shift halves a word that carries 2^63, and leaves 2^62
half_shifted : (m : ℕ) (v : ℤ) → FitsSigned w64 v → Carries (2 ^ 63) m v → pos (m / 2) ≡ floor_half v +ℤ pos (2 ^ 62)
half_shifted m (pos n) fits f = omega (arith, ints)
half_shifted m (negsuc n) fits f = omega (arith, ints)

pub carries-half : {m : ℕ} {v : ℤ} → Carries (2 ^ 63) m v → Carries (2 ^ 62) (m / 2) (half w64 v)
carries-half {m} {v} f =
    let e = half_shifted m (wrap w64 v) (wrap_fits w64 v) (carries-wrap f) in
    record { small = omega arith; below = omega arith; turns = pos 0; is = omega (arith, ints) }

floor_half_fits : (v : ℤ) → FitsSigned w64 v → FitsSigned w64 (floor_half v)
floor_half_fits (pos n) fits = record { sfits = omega arith }
floor_half_fits (negsuc n) fits = record { sfits = omega arith }

pub half_wrapped : (v : ℤ) → wrap w64 (half w64 v) ≡ half w64 v
half_wrapped v = wrap_value w64 (half w64 v) (floor_half_fits (wrap w64 v) (wrap_fits w64 v))

-- the number of a word that carries nothing
pub carries-none : {m : ℕ} {v : ℤ} → Carries 0 m v → wrap w64 (pos m) ≡ wrap w64 v
carries-none {m} {v} f = wrap_from_same w64 (pos m) v (f.turns, omega (arith, ints))

-- a value is the number of its word
pub word_value : (v : ℤ) → FitsSigned w64 v → wrap w64 (pos (cast_unsigned w64 v)) ≡ v
word_value (pos n) fits = wrap_value w64 (pos n) fits
word_value (negsuc n) fits = wrap_from_same w64 (pos (2 ^ 64 - suc n)) (negsuc n) (pos 1, omega (arith, ints, fits.sfits)) ∙ wrap_value w64 (negsuc n) fits

-- which of the two widths has 64 bits
pub is_wide : (w : Width) → (w ≡ w32) ⊎ (w ≡ w64) → 64 ≡ bits w → w ≡ w64
is_wide w (inl e) wide = let narrow : bits w ≡ 32 = ap bits e in absurd (omega arith)
is_wide w (inr e) wide = e
