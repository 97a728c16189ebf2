-- Numbers as words: `parse` against `decimal`.
use Rattle.std.proofs.Common.{◌≡◌, ◌≢◌, ℕ, ◌<◌, ◌≤◌, ◌^◌, List, ◌∷◌, length, get_or, Result, Ok, Err, IfSome, IfNone, Option, Bool, true, false, ◌⊎◌, inl, Decides, ap, sym, ◌∙◌, subst, arith, decimal, rules}
use Rattle.std.{specs.Int.{IsInRange}, specs.Result.{result_ok}}
use Rattle.std.specs.Str.Parse.{ParsesUnsigned, AllDigits, digits_value}
use Rattle.std.proofs.lemmas.Str.Parse.{IsNumeralModel, numerals_by_value, tells_digits, not_in_digits, parse_plain}
use Rattle.std.proofs.lemmas.Fmt.{digits_decimal, decimal_nonempty, parse-decimal, decimal-digits_value}
use Rattle.zf_base.proofs.Decimals.{one_zero}

own : IsNumeralModel (AllDigits 10) (digits_value 10)
own = numerals_by_value (AllDigits 10) tells_digits

-- no byte of a number but a digit
pub decimal_has_no : (n c i : ℕ) → n < 2 ^ 64 → ¬ IsInRange 48 57 c → i < length (decimal n) → get_or (decimal n) i 0 ≢ c
decimal_has_no n c i small no_digit lt = not_in_digits own (decimal n) c (digits_decimal own n small) no_digit i lt

-- a number begins with no plus
pub decimal_no_plus : (word : List ℕ) (n : ℕ) → n < 2 ^ 64 → word ≡ decimal n → get_or word 0 0 ≡ 43 → ⊥
decimal_no_plus word n small is plus =
    decimal_has_no n 43 0 small (λ r. omega arith) (decimal_nonempty n small) (ap (λ t. get_or t 0 0) (sym is) ∙ plus)

-- a number that begins with a zero is zero
pub decimal_no_zero : (word : List ℕ) (n : ℕ) → n < 2 ^ 64 → word ≡ decimal n → get_or word 0 0 ≡ 48 → 1 < length word → ⊥
decimal_no_zero word n small is first long =
    one_zero n small (ap (λ t. get_or t 0 0) (sym is) ∙ first) (subst (λ t. 1 < length t) is long)

-- what is parsed with no plus and no zero in front is the number's own text
pub parsed_some : {E : Type 0} (word : List ℕ) (r : Result ℕ E) (o : Option ℕ) → ParsesUnsigned 64 10 word r → o ≡ result_ok r → get_or word 0 0 ≢ 43 → (get_or word 0 0 ≡ 48 → length word ≡ 1) → IfSome o (λ n. word ≡ decimal n)
parsed_some {E} word (Ok n) o parsed is no_plus no_zero =
    let plain = parse_plain own {E = E} 64 word (Ok n) parsed no_plus in
    rw is (sym (ap decimal plain.1 ∙ decimal-digits_value own word plain.0.0 plain.0.1 no_zero plain.0.2))
parsed_some {E} word (Err e) o parsed is no_plus no_zero = rw is tt

-- the text of each number is parsed
pub parsed_none : {E : Type 0} (word : List ℕ) (r : Result ℕ E) (o : Option ℕ) → ParsesUnsigned 64 10 word r → o ≡ result_ok r → IfNone o ((n : ℕ) → n < 2 ^ 64 → word ≢ decimal n)
parsed_none {E} word (Ok n) o parsed is = rw is tt
parsed_none {E} word (Err e) o parsed is = rw is (λ n small same. let found = parse-decimal {E = E} 64 n word (Err e) small small same parsed in cc)

-- with a zero in front there is no more than the zero
pub zero_alone : (word : List ℕ) (starts : Bool) → Decides starts (get_or word 0 0 ≡ 48) → ((starts ≡ true) × (length word ≤ 1)) ⊎ (starts ≡ false) → get_or word 0 0 ≡ 48 → length word ≡ 1
zero_alone (b ∷ bs) starts decides (inl short) begins = omega (arith, short.1)
zero_alone _ starts decides either begins = search rules
