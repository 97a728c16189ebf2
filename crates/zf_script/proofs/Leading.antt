-- The number before a byte.
use Rattle.std.proofs.Common.{◌≡◌, ◌≢◌, ℕ, ◌+◌, ◌<◌, ◌≤◌, ◌^◌, List, [], ◌∷◌, ◌++◌, length, get_or, take, drop, ◌==◌, ⊎_elim, refl, ap, sym, ◌∙◌, arith, decimal, false, length-append, get_or-take, length-take-le, rules}
use Rattle.std.{specs.List.{join_with_byte}, specs.Str.Parse.{AllDigits, digits_value}}
use Rattle.std.{proofs.Math.Nat.{eq-or-lt_of_le}, proofs.Math.Seq.{get_or-append_seam}}
use Rattle.std.{proofs.lemmas.Bool.{cases_lt, eq-eqb, ne_eqb}, proofs.lemmas.List.Elements.{All-from_get_or}}
use Rattle.std.proofs.lemmas.List.{drop_more, take-append-drop, take-append-le, get_or_append_left}
use Rattle.std.{proofs.lemmas.List.Splits.{slice_split_at}, proofs.lemmas.Str.Parse.{not_in_digits}}
use Rattle.std.proofs.lemmas.Fmt.{digits_decimal, decimal_nonempty, decimal-digits_value}
use Rattle.zf_base.proofs.Decimals.{one_zero}
use Rattle.zf_cached.{specs.Grammar.{IsNoDigit, cut_at}, proofs.Cutting.{cut_at-one, joined-cut_at}}
use Rattle.zf_cached.proofs.Numerals.{own, HasNo, number-decimal}
use Rattle.zf_script.{specs.NumberWords.{IsDigitMore}, proofs.Digits.{digit_more}}

no_byte : (byte : ℕ) (word : List ℕ) → IsNoDigit byte → AllDigits 10 word → HasNo byte word
no_byte byte word no_digit digits =
    All-from_get_or (λ b. (b == byte) ≡ false) word 0 (λ i lt. ne_eqb (get_or word i 0) byte (not_in_digits own word byte digits no_digit i lt))

-- digits of which a zero stands alone are the text of the number that they say
pub text_of : (at number first : ℕ) (word : List ℕ) → 1 ≤ at → at ≤ length word → get_or word 0 0 ≡ first → AllDigits 10 (take at word) → number ≡ digits_value 10 (take at word) → number < 2 ^ 64 → (first ≡ 48 → at ≡ 1) → take at word ≡ decimal number
text_of at number first word some within begins digits is short alone =
    let long : length (take at word) ≡ at = length-take-le at word within in
    let same : get_or (take at word) 0 0 ≡ first = get_or-take at word 0 0 (omega arith) ∙ begins in
    sym (ap decimal is ∙ decimal-digits_value own (take at word) digits (omega arith) (λ zero. long ∙ alone (sym same ∙ zero)) (omega (arith, is, short)))

-- digits alone are the one part
pub cut_nowhere : (byte : ℕ) (word : List ℕ) → IsNoDigit byte → AllDigits 10 word → cut_at byte word ≡ word ∷ []
cut_nowhere byte word no_digit digits = cut_at-one byte word (no_byte byte word no_digit digits)

module _ (byte at : ℕ) (word : List ℕ) (no_digit : IsNoDigit byte) (digits : AllDigits 10 (take at word)) (lt : at < length word) where
  -- where the byte stands behind digits, they are the first part
  pub cut_there : get_or word at 0 ≡ byte → cut_at byte word ≡ take at word ∷ cut_at byte (drop (at + 1) word)
  cut_there is =
      let behind : drop at word ≡ byte ∷ drop (at + 1) word = drop_more word at 0 lt ∙ ap (λ b. b ∷ drop (at + 1) word) is in
      ap (cut_at byte) (sym (take-append-drop at word) ∙ ap (λ bs. take at word ++ bs) behind)
      ∙ slice_split_at (λ b. b == byte) (take at word) byte (drop (at + 1) word) (no_byte byte (take at word) no_digit digits) (eq-eqb byte byte refl)

  -- where another byte does, it belongs to the first part
  pub inside : (first : List ℕ) (rest : List (List ℕ)) → get_or word at 0 ≢ byte → word ≡ join_with_byte byte (first ∷ rest) → at < length first
  inside first [] other is = omega (arith, ap length is)
  inside first (next ∷ rest) other is =
      let seam : get_or word (length first) 0 ≡ byte = ap (λ bs. get_or bs (length first) 0) is ∙ get_or-append_seam first byte (join_with_byte byte (next ∷ rest)) 0 in
      ⊎_elim (λ below. below) (λ le. absurd (⊎_elim (λ same. other (ap (λ i. get_or word i 0) (sym same) ∙ seam))
      (λ past. not_in_digits own (take at word) byte digits no_digit (length first) (omega (arith, length-take-le at word (omega arith))) (get_or-take at word (length first) 0 past ∙ seam))
      (eq-or-lt_of_le le))) (cases_lt at (length first))

-- a word begins with its first part
begins : (byte : ℕ) (word first : List ℕ) (rest : List (List ℕ)) → word ≡ join_with_byte byte (first ∷ rest) → (behind : List ℕ) × (word ≡ first ++ behind)
begins byte word first _ is = search rules

module _ (byte : ℕ) (word : List ℕ) (n : ℕ) (rest : List (List ℕ)) (small : n < 2 ^ 64) (cut : cut_at byte word ≡ decimal n ∷ rest) where
  pub whole : word ≡ join_with_byte byte (decimal n ∷ rest)
  whole = sym (joined-cut_at byte word) ∙ ap (join_with_byte byte) cut

  behind : (b : List ℕ) × (word ≡ decimal n ++ b)
  behind = begins byte word (decimal n) rest whole

  same_byte : (i : ℕ) → i < length (decimal n) → get_or word i 0 ≡ get_or (decimal n) i 0
  same_byte i lt = ap (λ bs. get_or bs i 0) behind.1 ∙ get_or_append_left (decimal n) behind.0 0 i lt

  -- a number has a digit
  pub some_digit : 0 < length word
  some_digit = omega (arith, decimal_nonempty n small, ap length behind.1, length-append (decimal n) behind.0)

  -- within the first part each byte is a digit more
  pub more_inside : (at number next : ℕ) → at < length (decimal n) → number ≡ digits_value 10 (take at word) → next ≡ get_or word at 0 → IsDigitMore number next
  more_inside at number next lt is this =
      digit_more (decimal n) at number next lt
      (is ∙ ap (digits_value 10) (ap (take at) behind.1 ∙ take-append-le at (decimal n) behind.0 (omega arith)))
      (this ∙ same_byte at lt)
      (record { digits = digits_decimal own n small; short = omega (arith, number-decimal n small, small) })

  -- the first byte is one
  pub first_more : (next : ℕ) → next ≡ get_or word 0 0 → IsDigitMore 0 next
  first_more next this = more_inside 0 0 next (decimal_nonempty n small) refl this

  -- and a zero stands alone
  pub no_zero : (at : ℕ) → 1 ≤ at → at < length (decimal n) → get_or word 0 0 ≢ 48
  no_zero at some lt zero = one_zero n small (sym (same_byte 0 (omega arith)) ∙ zero) (omega arith)
