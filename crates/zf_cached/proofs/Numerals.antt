-- Numbers and values as digits.
use Rattle.std.proofs.Common.{◌≡◌, ◌≢◌, ℕ, suc, ◌<◌, ◌^◌, ℤ, pos, negsuc, List, length, get_or, true, false, ◌==◌, All, sym, refl, arith, decimal, rules}
use Rattle.std.{specs.Fmt.{signed_decimal}, specs.Str.Parse.{AllDigits, digits_value, signed_digits_value}}
use Rattle.std.proofs.lemmas.Bool.{ne_eqb, ltb-true}
use Rattle.std.proofs.lemmas.Str.Parse.{IsNumeralModel, numerals_by_value, tells_digits, not_in_digits}
use Rattle.std.proofs.lemmas.Fmt.{digits_decimal, digits_value-decimal, decimal_nonempty}
use Rattle.std.proofs.lemmas.List.Elements.{All-from_get_or, All-cons}
use Rattle.zf_cached.specs.Grammar.{IsNoDigit, is_value}

pub own : IsNumeralModel (AllDigits 10) (digits_value 10)
own = numerals_by_value (AllDigits 10) tells_digits

-- no byte of a text is this one
abbrev pub HasNo : ℕ → List ℕ → Type 0
HasNo byte bs = All (λ b. (b == byte) ≡ false) bs

digit_is_not : (n byte i : ℕ) → n < 2 ^ 64 → IsNoDigit byte → i < length (decimal n) → get_or (decimal n) i 0 ≢ byte
digit_is_not n byte i small no_digit lt = not_in_digits own (decimal n) byte (digits_decimal own n small) no_digit i lt

-- a number has no byte but digits
pub HasNo-decimal : (byte n : ℕ) → n < 2 ^ 64 → IsNoDigit byte → HasNo byte (decimal n)
HasNo-decimal byte n small no_digit =
    All-from_get_or (λ b. (b == byte) ≡ false) (decimal n) 0 (λ i lt. ne_eqb (get_or (decimal n) i 0) byte (digit_is_not n byte i small no_digit lt))

-- and a value none but these and its sign
pub HasNo-signed : (byte : ℕ) (v : ℤ) → is_value v ≡ true → IsNoDigit byte → byte ≢ 45 → HasNo byte (signed_decimal v)
HasNo-signed byte (pos n) small no_digit no_sign = HasNo-decimal byte n (ltb-true n _ small) no_digit
HasNo-signed byte (negsuc n) small no_digit no_sign =
    All-cons (λ b. (b == byte) ≡ false) 45 (decimal (suc n)) (ne_eqb 45 byte (λ e. no_sign (sym e))) (HasNo-decimal byte (suc n) (ltb-true (suc n) _ small) no_digit)

-- the digits of a number say it
pub number-decimal : (n : ℕ) → n < 2 ^ 64 → digits_value 10 (decimal n) ≡ n
number-decimal n small = digits_value-decimal own n small

first_is_not : (n byte : ℕ) → n < 2 ^ 64 → IsNoDigit byte → (get_or (decimal n) 0 0 == byte) ≡ false
first_is_not n byte small no_digit = ne_eqb (get_or (decimal n) 0 0) byte (digit_is_not n byte 0 small no_digit (decimal_nonempty n small))

-- a sign and digits say the value
pub value-signed : (v : ℤ) → is_value v ≡ true → signed_digits_value 10 (signed_decimal v) ≡ v
value-signed (pos n) small =
    let no_minus : IsNoDigit 45 = λ r. omega arith in let no_plus : IsNoDigit 43 = λ r. omega arith in
    search (rules, ltb-true, first_is_not, number-decimal)
value-signed (negsuc n) small = rw (number-decimal (suc n) (ltb-true (suc n) _ small)) refl
