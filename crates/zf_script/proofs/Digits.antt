-- Digits one by one, and numbers as words.
use Rattle.std.proofs.Common.{◌≡◌, ◌≢◌, ℕ, suc, ◌+◌, ◌*◌, ◌<◌, ◌^◌, List, [], ◌∷◌, length, get_or, take, Option, Some, None, IfSome, IfNone, ap, sym, ◌∙◌, subst, arith, decimal, slice_get, refl, rules}
use Rattle.std.{specs.Char.{digit_value}, specs.Option.{SomeIff}, specs.Str.Parse.{AllDigits, digits_value}}
use Rattle.std.{proofs.lemmas.Int.Digits.{digits_value_more}, proofs.lemmas.Str.Parse.{digits_value-take-le}}
use Rattle.std.proofs.lemmas.Fmt.{digits_decimal, decimal-digits_value, decimal_nonempty}
use Rattle.zf_cached.proofs.Numerals.{own, number-decimal}
use Rattle.zf_script.specs.NumberWords.{IsShortNumeral, IsDigitMore}
use Rattle.zf_base.proofs.Decimals.{one_zero}

-- each byte of digits is a digit
pub digit_in : (word : List ℕ) (i : ℕ) → AllDigits 10 word → i < length word → digit_value (get_or word i 0) < 10
digit_in (c ∷ cs) (suc i) digits lt = digit_in cs i digits.1 (omega arith)
digit_in _ i digits lt = search rules

-- where a numeral is short, each of its digits is a digit more of what stands before it
pub digit_more : (word : List ℕ) (i number byte : ℕ) → i < length word → number ≡ digits_value 10 (take i word) → byte ≡ get_or word i 0 → IsShortNumeral word → IsDigitMore number byte
digit_more word i number byte lt is at short = rw (is, at) (record {
  digit = digit_in word i short.digits lt;
  short = omega (arith, digits_value_more 10 word i lt, digits_value-take-le 10 word (i + 1) (omega arith), short.short);
})

-- and the number with it is that of one digit more
pub number_more : (word : List ℕ) (i number next byte : ℕ) → i < length word → number ≡ digits_value 10 (take i word) → byte ≡ get_or word i 0 → next ≡ number * 10 + digit_value byte → next ≡ digits_value 10 (take (i + 1) word)
number_more word i number next byte lt is at step = search (rules, digits_value_more)

-- ---- a number is the word of its digits
pub number_some : (word : List ℕ) (o : Option ℕ) → SomeIff o (IsShortNumeral word) (digits_value 10 word) → 0 < length word → (get_or word 0 0 ≡ 48 → length word ≡ 1) → IfSome o (λ n. word ≡ decimal n)
number_some word None found some alone = tt
number_some word (Some n) found some alone =
    sym (ap decimal found.1 ∙ decimal-digits_value own word found.0.digits some alone found.0.short)

pub number_none : (word : List ℕ) (o : Option ℕ) → SomeIff o (IsShortNumeral word) (digits_value 10 word) → IfNone o ((n : ℕ) → n < 2 ^ 64 → word ≢ decimal n)
number_none word (Some n) found = tt
number_none word None found = λ n small is. found (rw is (search (rules, digits_decimal, own, number-decimal)))

pub no_first : (word : List ℕ) → slice_get word 0 ≡ None → length word ≡ 0
no_first [] none = refl
no_first (b ∷ bs) none = absurd (cc)

-- an empty word is no number, and a zero begins no other number
pub empty_none : (word : List ℕ) (n : ℕ) → length word ≡ 0 → n < 2 ^ 64 → word ≢ decimal n
empty_none word n empty small is = omega (arith, decimal_nonempty n small, ap length is)

pub zero_none : (word : List ℕ) (n : ℕ) → get_or word 0 0 ≡ 48 → 1 < length word → n < 2 ^ 64 → word ≢ decimal n
zero_none word n first long small is =
    one_zero n small (ap (λ t. get_or t 0 0) (sym is) ∙ first) (subst (λ t. 1 < length t) is long)
