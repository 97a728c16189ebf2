-- Values as words.
use Rattle.std.proofs.Common.{◌≡◌, ◌≢◌, ℕ, ◌<◌, ◌^◌, ℤ, pos, negsuc, List, ◌∷◌, get_or, IsTrue, ap, sym, ◌∙◌, arith, decimal, rules}
use Rattle.std.{specs.Fmt.{signed_decimal}, proofs.lemmas.Bool.{ltb-true}}
use Rattle.std.proofs.lemmas.Fmt.{digits_decimal, decimal_nonempty, decimal_injective}
use Rattle.std.proofs.lemmas.Str.Parse.{not_in_digits}
use Rattle.zf_cached.{specs.Grammar.{is_value}, proofs.Numerals.{own}}

no_minus_first : (n : ℕ) → n < 2 ^ 64 → get_or (decimal n) 0 0 ≢ 45
no_minus_first n small = not_in_digits own (decimal n) 45 (digits_decimal own n small) (λ r. omega arith) 0 (decimal_nonempty n small)

-- digits behind a minus are no value where they are no number but zero
pub minus_none : (digits : List ℕ) (v : ℤ) → IsTrue (is_value v) → ((n : ℕ) → 0 < n → n < 2 ^ 64 → digits ≢ decimal n) → 45 ∷ digits ≡ signed_decimal v → ⊥
minus_none digits (pos n) small none same = no_minus_first n (ltb-true n _ small) (ap (λ bs. get_or bs 0 0) (sym same))
minus_none digits (negsuc n) small none same = search (rules, ltb-true)

-- zero is no other number
pub zero_only : (digits : List ℕ) (n : ℕ) → digits ≡ decimal 0 → 0 < n → n < 2 ^ 64 → digits ≢ decimal n
zero_only digits n zero_is some small is = omega (arith, decimal_injective 0 n (omega arith) small (sym zero_is ∙ is))
