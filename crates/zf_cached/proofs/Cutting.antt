-- Texts that are cut at a byte, and numbers between such bytes.
use Rattle.std.proofs.Common.{◌≡◌, ◌≢◌, ℕ, ◌≤◌, List, [], ◌∷◌, length, map, true, false, ◌==◌, refl, ap, sym, ◌∙◌, arith, decimal, suc, ◌+◌, not, take, drop, Some, None, position, rules}
use Rattle.std.specs.List.{AllByRecursion, join_with_byte, list_all, position_or_len, onto_first}
use Rattle.std.{specs.Str.Parse.{digits_value}, proofs.lemmas.List.Elements.{All-append, All-cons, All-nil}}
use Rattle.std.proofs.lemmas.Bool.{eq-eqb, ne_eqb, ltb-true, and_parts, not-true, ltb-false, cond_both}
use Rattle.std.proofs.lemmas.List.Splits.{slice_split_none, slice_split_at, slice_split_first, slice_split-cons_no, join_with_byte-slice_split}
use Rattle.zf_cached.specs.Grammar.{IsNoDigit, numbers_text, is_number, cut_at, numbers_in}
use Rattle.zf_cached.proofs.Numerals.{HasNo, HasNo-decimal, number-decimal}

-- a text without the byte is the one part
pub cut_at-one : (byte : ℕ) (word : List ℕ) → HasNo byte word → cut_at byte word ≡ word ∷ []
cut_at-one byte word none = slice_split_none (λ b. b == byte) word none

-- words without the byte, joined by it, are cut into these words
pub cut_at-joined : (byte : ℕ) (words : List (List ℕ)) → 1 ≤ length words → AllByRecursion (HasNo byte) words → cut_at byte (join_with_byte byte words) ≡ words
cut_at-joined byte [] some none = absurd (omega arith)
cut_at-joined byte (word ∷ []) some none = cut_at-one byte word none.0
cut_at-joined byte (word ∷ next ∷ words) some none =
    slice_split_at (λ b. b == byte) word byte (join_with_byte byte (next ∷ words)) none.0 (eq-eqb byte byte refl)
    ∙ ap (λ rest. word ∷ rest) (cut_at-joined byte (next ∷ words) (omega arith) none.1)

-- what a text is cut into gives it back
pub joined-cut_at : (byte : ℕ) (bs : List ℕ) → join_with_byte byte (cut_at byte bs) ≡ bs
joined-cut_at byte bs = join_with_byte-slice_split byte bs

-- a text that is cut into one word is this word
pub one_word : (byte : ℕ) (bs word : List ℕ) → cut_at byte bs ≡ word ∷ [] → bs ≡ word
one_word byte bs word one = sym (joined-cut_at byte bs) ∙ ap (join_with_byte byte) one

-- numbers with another byte between two of them have none of the byte
pub HasNo-numbers : (byte between : ℕ) (ns : List ℕ) → list_all is_number ns ≡ true → IsNoDigit byte → between ≢ byte → HasNo byte (numbers_text between ns)
HasNo-numbers byte between [] small no_digit other = All-nil (λ b. (b == byte) ≡ false)
HasNo-numbers byte between (n ∷ []) small no_digit other =
    HasNo-decimal byte n (ltb-true n _ (and_parts (is_number n) true small).0) no_digit
HasNo-numbers byte between (n ∷ m ∷ ns) small no_digit other =
    let parts = and_parts (is_number n) (list_all is_number (m ∷ ns)) small in
    All-append (λ b. (b == byte) ≡ false) (decimal n) (between ∷ numbers_text between (m ∷ ns))
    (HasNo-decimal byte n (ltb-true n _ parts.0) no_digit)
    (All-cons (λ b. (b == byte) ≡ false) between (numbers_text between (m ∷ ns)) (ne_eqb between byte other)
    (HasNo-numbers byte between (m ∷ ns) parts.1 no_digit other))

no_byte : (byte : ℕ) (ns : List ℕ) → list_all is_number ns ≡ true → IsNoDigit byte → AllByRecursion (HasNo byte) (map decimal ns)
no_byte byte [] small no_digit = tt
no_byte byte (n ∷ ns) small no_digit =
    let parts = and_parts (is_number n) (list_all is_number ns) small in
    (HasNo-decimal byte n (ltb-true n _ parts.0) no_digit, no_byte byte ns parts.1 no_digit)

-- the text of numbers is cut into their decimals
pub cut_at-numbers : (byte : ℕ) (ns : List ℕ) → 1 ≤ length ns → list_all is_number ns ≡ true → IsNoDigit byte → cut_at byte (numbers_text byte ns) ≡ map decimal ns
cut_at-numbers byte [] some small no_digit = absurd (omega arith)
cut_at-numbers byte (n ∷ ns) some small no_digit =
    cut_at-joined byte (map decimal (n ∷ ns)) (omega arith) (no_byte byte (n ∷ ns) small no_digit)

numbers_back : (ns : List ℕ) → list_all is_number ns ≡ true → map (digits_value 10) (map decimal ns) ≡ ns
numbers_back [] small = refl
numbers_back (n ∷ ns) small =
    let parts = and_parts (is_number n) (list_all is_number ns) small in
    let first = number-decimal n (ltb-true n _ parts.0) in
    let rest = numbers_back ns parts.1 in
    cc

-- and gives the numbers back
pub numbers_in-numbers_text : (byte : ℕ) (ns : List ℕ) → 1 ≤ length ns → list_all is_number ns ≡ true → IsNoDigit byte → numbers_in byte (numbers_text byte ns) ≡ ns
numbers_in-numbers_text byte ns some small no_digit =
    ap (map (digits_value 10)) (cut_at-numbers byte ns some small no_digit) ∙ numbers_back ns small

-- ---- where the first such byte stands
no_place : (byte : ℕ) (bs : List ℕ) → length bs ≤ position_or_len (λ b. b == byte) bs → cut_at byte bs ≡ bs ∷ []
no_place byte [] far = refl
no_place byte (b ∷ bs) far =
    let rest : ℕ = position_or_len (λ a. a == byte) bs in
    let P : ℕ → Type 0 = λ n. suc (length bs) ≤ n → cut_at byte (b ∷ bs) ≡ (b ∷ bs) ∷ [] in
    cond_both (not (b == byte)) (1 + rest) 0 P
    (λ other above. slice_split-cons_no (λ a. a == byte) b bs (not-true (b == byte) other) ∙ ap (onto_first b) (no_place byte bs (omega arith)))
    (λ same above. absurd (omega arith)) far

-- where no such byte stands, the text is the one part
pub cut_at-nowhere : (byte : ℕ) (bs : List ℕ) → position (λ b. b == byte) bs ≡ None → cut_at byte bs ≡ bs ∷ []
cut_at-nowhere byte bs nowhere = search (rules, cond_both, no_place, ltb-false)

-- else the first part ends there
pub cut_at-place : (byte : ℕ) (bs : List ℕ) (end : ℕ) → position (λ b. b == byte) bs ≡ Some end → cut_at byte bs ≡ take end bs ∷ cut_at byte (drop (end + 1) bs)
cut_at-place byte bs end at = search (rules, cond_both, slice_split_first, ltb-true)
