-- The lowest bits of a number, and the number that bits stand for.
use Rattle.std.proofs.Common.{◌≡◌, refl, sym, ap, ◌∙◌, ℕ, zero, suc, ◌+◌, ◌*◌, ◌/◌, ◌%◌, ◌^◌, ◌<◌, Bool, false, List, [], ◌∷◌, ◌++◌, length, get_or, replicate, pow-suc, mod-eq_of_lt, pow_pos, arith, rules}
use Rattle.std.{proofs.lemmas.Nat.{mod-pow-add, mul-add-lt, pow-add, shr-shr}, proofs.Math.Nat.{div-one, mod-one}}
use Rattle.zf_spec.{specs.Numbers.{is_odd, digit_value, field, number}, proofs.Halves.{digit_value-is_odd}}

pub length-field : (n v : ℕ) → length (field n v) ≡ n
length-field zero v = refl
length-field (suc n) v = ap suc (length-field n (v / 2))

-- the bits are those of v modulo 2^n
pub number-field : (n v : ℕ) → number (field n v) ≡ v % 2 ^ n
number-field zero v = sym (mod-one v)
number-field (suc n) v =
    let e : n + 1 ≡ suc n = omega arith in
    rw (← e) (omega (arith, mod-pow-add v n 1, digit_value-is_odd v, number-field n (v / 2)))

pub is_odd-digit_value : (b : Bool) (n : ℕ) → is_odd (digit_value b + 2 * n) ≡ b
is_odd-digit_value b n = grind arith

pub half-digit_value : (b : Bool) (n : ℕ) → (digit_value b + 2 * n) / 2 ≡ n
half-digit_value b n = grind arith

-- bits are the field of their number
pub field-number : (n : ℕ) (bs : List Bool) → length bs ≡ n → field n (number bs) ≡ bs
field-number zero [] l = refl
field-number (suc n) (b ∷ bs) l =
    cc (is_odd-digit_value b (number bs), half-digit_value b (number bs), field-number n bs (omega arith))
field-number n bs l = cc

pub number-lt : (bs : List Bool) → number bs < 2 ^ length bs
number-lt [] = omega arith
number-lt (b ∷ bs) = let rest = number-lt bs in search (rules, pow-suc)

-- two numbers of so many digits, one above the other
pub sum_below : (m n u v : ℕ) → u < 2 ^ m → v < 2 ^ n → u * 2 ^ n + v < 2 ^ (m + n)
sum_below m n u v high low = search (rules, mul-add-lt, pow-add)

-- a field is its lower part and then its higher part
pub field-add : (m n v : ℕ) → field (m + n) v ≡ field m v ++ field n (v / 2 ^ m)
field-add zero n v = let e : zero + n ≡ n = omega arith in rw e (ap (field n) (sym (div-one v)))
field-add (suc m) n v =
    let e : suc m + n ≡ suc (m + n) = omega arith in
    let step : 1 + m ≡ suc m = omega arith in cc (shr-shr v 1 m, field-add m n (v / 2))

-- only the n lowest bits of a number count
pub field-mod : (n v : ℕ) → field n (v % 2 ^ n) ≡ field n v
field-mod n v = ap (field n) (sym (number-field n v)) ∙ field-number n (field n v) (length-field n v)

pub field-zero : (n : ℕ) → field n 0 ≡ replicate n false
field-zero zero = refl
field-zero (suc n) = ap (λ bs. false ∷ bs) (field-zero n)

pub number-zeros : (n : ℕ) → number (replicate n false) ≡ 0
number-zeros n = ap number (sym (field-zero n)) ∙ number-field n 0 ∙ mod-eq_of_lt (pow_pos n)

pub number-append : (as' bs : List Bool) → number (as' ++ bs) ≡ number as' + 2 ^ length as' * number bs
number-append [] bs = omega arith
number-append (a ∷ as') bs = omega (arith, number-append as' bs, ap (λ p. p * number bs) (pow-suc 2 (length as')))

-- bit k of a field
pub get_or-field : (n v k : ℕ) (d : Bool) → k < n → get_or (field n v) k d ≡ is_odd (v / 2 ^ k)
get_or-field zero v k d h = absurd (omega arith)
get_or-field (suc n) v zero d h = ap is_odd (sym (div-one v))
get_or-field (suc n) v (suc k) d h =
    let step : 1 + k ≡ suc k = omega arith in let rest = get_or-field n (v / 2) k d (omega arith) in cc (shr-shr v 1 k)
