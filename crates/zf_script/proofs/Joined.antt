-- Numbers with a byte between two of them, part by part.
use Rattle.std.proofs.Common.{◌≡◌, ℕ, ◌+◌, ◌<◌, ◌≤◌, ◌^◌, true, ◌==◌, List, [], ◌∷◌, ◌++◌, map, length, get_or, set, take, ap, sym, ◌∙◌, arith, decimal, get_or-set_other, length-take, append_assoc, append-nil, length-append, rules}
use Rattle.std.{specs.List.{join_with_byte, list_all}, proofs.lemmas.List.Folds.{list_all-append}}
use Rattle.std.proofs.lemmas.Bool.{ltb-true, lt-ltb, le-leb, and_from, and_parts}
use Rattle.std.proofs.lemmas.List.{length-map, map-append, take_more_set}
use Rattle.std.proofs.lemmas.List.Splits.{length-slice_split}
use Rattle.zf_base.{specs.declared.position.Pos.{Pos}, specs.Positions.{used_axes, with_unused}}
use Rattle.zf_cached.specs.Grammar.{IsNoDigit, numbers_text, is_number, has_axes, has_sizes, cut_at}
use Rattle.zf_cached.proofs.Cutting.{cut_at-numbers, joined-cut_at}
use Rattle.zf_cached.proofs.ReadLines.{axes-parts, sizes-parts}
use Rattle.zf_script.specs.NumberWords.{IsSizesWord}
use Rattle.zf_spec.proofs.Counting.{four_elements}

-- ---- a word of numbers and its parts
pub parts_are : (byte : ℕ) (word ns : List ℕ) → IsNoDigit byte → has_sizes ns ≡ true → word ≡ numbers_text byte ns → cut_at byte word ≡ map decimal ns
parts_are byte word ns no_digit ok is = search (rules, sizes-parts, cut_at-numbers)

-- there are at most four
pub four_parts : (byte : ℕ) (word ns : List ℕ) → IsNoDigit byte → has_sizes ns ≡ true → word ≡ numbers_text byte ns → length (cut_at byte word) ≤ 4
four_parts byte word ns no_digit ok is =
    omega (arith, ap length (parts_are byte word ns no_digit ok is), length-map ns decimal, (sizes-parts ns ok).1)

-- and one at least of any word
pub some_part : (byte : ℕ) (word : List ℕ) → 1 ≤ length (cut_at byte word)
some_part byte word = omega (arith, length-slice_split (λ b. b == byte) word)

part_of_texts : (ns : List ℕ) (prefix : List (List ℕ)) (part : List ℕ) (more : List (List ℕ)) → list_all is_number ns ≡ true → map decimal ns ≡ prefix ++ part ∷ more → (n : ℕ) × (n < 2 ^ 64) × (part ≡ decimal n)
part_of_texts [] [] part more small same = absurd (cc)
part_of_texts [] (text ∷ prefix) part more small same = absurd (cc)
part_of_texts (n ∷ ns) [] part more small same = search (rules, ltb-true, and_parts)
part_of_texts (n ∷ ns) (text ∷ prefix) part more small same =
    let rest : map decimal ns ≡ prefix ++ part ∷ more = cc in
    part_of_texts ns prefix part more (and_parts (is_number n) (list_all is_number ns) small).1 rest

-- what is left of the parts begins with a number
pub begins_with_number : (byte : ℕ) (word ns : List ℕ) (prefix left : List (List ℕ)) → IsNoDigit byte → 1 ≤ length left → cut_at byte word ≡ prefix ++ left → has_sizes ns ≡ true → word ≡ numbers_text byte ns → (n : ℕ) × (more : List (List ℕ)) × (n < 2 ^ 64) × (left ≡ decimal n ∷ more)
begins_with_number byte word ns prefix [] no_digit some cut ok is = absurd (omega arith)
begins_with_number byte word ns prefix (part ∷ more) no_digit some cut ok is = search (rules, part_of_texts, sizes-parts, parts_are)

-- parts that are numbers make a word of them
pub joined_parts : (byte : ℕ) (word ns : List ℕ) → cut_at byte word ≡ map decimal ns → word ≡ numbers_text byte ns
joined_parts byte word ns cut = sym (joined-cut_at byte word) ∙ ap (join_with_byte byte) cut

-- ---- one number more
pub numbers_more : (numbers : List ℕ) (count n : ℕ) → count < length numbers → list_all is_number (take count numbers) ≡ true → n < 2 ^ 64 → list_all is_number (take (count + 1) (set numbers count n)) ≡ true
numbers_more numbers count n lt all small = search (rules, take_more_set, list_all-append, and_from, lt-ltb)

pub texts_more : (texts : List (List ℕ)) (part : List ℕ) (rest : List (List ℕ)) (numbers : List ℕ) (count n : ℕ) → count < length numbers → part ≡ decimal n → texts ≡ map decimal (take count numbers) ++ part ∷ rest → texts ≡ map decimal (take (count + 1) (set numbers count n)) ++ rest
texts_more texts part rest numbers count n lt this so_far =
    so_far
    ∙ (ap (λ text. map decimal (take count numbers) ++ text ∷ rest) this
    ∙ (sym (append_assoc (map decimal (take count numbers)) (decimal n ∷ []) rest)
    ∙ ap (λ prefix. prefix ++ rest) (sym (map-append decimal (take count numbers) (n ∷ [])) ∙ ap (map decimal) (sym (take_more_set numbers count n lt)))))

-- the last number
pub texts_whole : (texts : List (List ℕ)) (part : List ℕ) (numbers : List ℕ) (count n : ℕ) → count < length numbers → part ≡ decimal n → texts ≡ map decimal (take count numbers) ++ part ∷ [] → texts ≡ map decimal (take (count + 1) (set numbers count n))
texts_whole texts part numbers count n lt this so_far =
    texts_more texts part [] numbers count n lt this so_far ∙ append-nil (map decimal (take (count + 1) (set numbers count n)))

-- the numbers behind the first ones stay
pub others_more : (numbers : List ℕ) (count n unused : ℕ) → ((k : ℕ) → count ≤ k → k < 4 → get_or numbers k 0 ≡ unused) → (k : ℕ) → count + 1 ≤ k → k < 4 → get_or (set numbers count n) k 0 ≡ unused
others_more numbers count n unused others k above below = search (rules, get_or-set_other)

-- ---- the numbers as a `Pos`

-- four numbers as a `Pos`
abbrev pub pos_of : List ℕ → Pos
pos_of xs = record { x = get_or xs 0 0; y = get_or xs 1 0; z = get_or xs 2 0; w = get_or xs 3 0 }

-- the others are as they were
others_are : (numbers : List ℕ) (count unused : ℕ) → length numbers ≡ 4 → count ≤ 4 → ((k : ℕ) → count ≤ k → k < 4 → get_or numbers k 0 ≡ unused) → pos_of numbers ≡ with_unused unused (used_axes count (pos_of numbers))
others_are numbers _ u four most others = search rules

-- a word whose parts are these numbers
pub sizes_word : (byte unused : ℕ) (word numbers : List ℕ) (count : ℕ) → length numbers ≡ 4 → 1 ≤ count → count ≤ 4 → list_all is_number (take count numbers) ≡ true → cut_at byte word ≡ map decimal (take count numbers) → ((k : ℕ) → count ≤ k → k < 4 → get_or numbers k 0 ≡ unused) → IsSizesWord byte unused word count (pos_of numbers)
sizes_word byte unused word numbers count four some most small cut others = search (rules, four_elements, length-take, and_from, le-leb, joined_parts, others_are)

-- ---- one number for each axis
pub sizes_from_axes : (d : ℕ) (ns : List ℕ) → 1 ≤ d → d ≤ 4 → has_axes d ns ≡ true → has_sizes ns ≡ true
sizes_from_axes d ns some most ok = search (rules, axes-parts, and_from, le-leb)

-- a word of so many numbers is none of another number of them
pub count_same : (d byte unused : ℕ) (word : List ℕ) (count : ℕ) (p : Pos) (ns : List ℕ) → IsNoDigit byte → 1 ≤ d → d ≤ 4 → IsSizesWord byte unused word count p → has_axes d ns ≡ true → word ≡ numbers_text byte ns → count ≡ d
count_same d byte unused word count p ns no_digit some most sizes ok is =
    let sized = sizes_from_axes d ns some most ok in
    let one = parts_are byte word (used_axes count p) no_digit sizes.numbers sizes.text in
    let two = parts_are byte word ns no_digit sized is in
    omega (arith, ap length one, ap length two, length-map ns decimal, length-map (used_axes count p) decimal, sizes.count_is, (axes-parts d ns ok).0)

-- a fifth part is one too many
pub fifth_part : (byte : ℕ) (word ns : List ℕ) (prefix rest : List (List ℕ)) → IsNoDigit byte → cut_at byte word ≡ prefix ++ rest → length prefix ≡ 4 → 1 ≤ length rest → has_sizes ns ≡ true → word ≡ numbers_text byte ns → ⊥
fifth_part byte word ns prefix rest no_digit cut four some ok is =
    omega (arith, four_parts byte word ns no_digit ok is, ap length cut, length-append prefix rest)
