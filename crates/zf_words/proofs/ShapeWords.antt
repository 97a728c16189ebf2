-- Shapes as words: `split` against sizes joined by the letter x.
use Rattle.std.proofs.Common.{rules, ◌≡◌, ◌≢◌, ℕ, suc, ◌+◌, ◌/◌, ◌^◌, ◌<◌, ◌≤◌, Bool, true, false, eqb, List, [], ◌∷◌, map, length, get_or, set, take, ◌++◌, ◌↔◌, Option, Result, Ok, Err, IsOk, IfOk, IfSome, IfNone, refl, ap, sym, ◌∙◌, subst, arith, lit<, append_assoc, add-one, decimal}
use Rattle.std.{specs.List.{All, AllByRecursion, slice_split, join_with_byte}, proofs.Math.Nat.{div-le_self}}
use Rattle.std.{proofs.Math.Pow.{pow_mono}, proofs.lemmas.Bool.{ne_eqb}, specs.Result.{result_ok}}
use Rattle.std.{proofs.lemmas.Fmt.{decimal_injective}, proofs.lemmas.List.Elements.{All-from_get_or}}
use Rattle.std.proofs.lemmas.List.{length-map, get_or-map, map-append, take_more_set}
use Rattle.std.proofs.lemmas.List.Splits.{slice_split_none, slice_split_at, length-slice_split, join_with_byte-slice_split}
use Rattle.std.{specs.declared.str.Split.{Split}, specs.Str.Pattern.{FindsChar}}
use Rattle.std.specs.Str.Iter.{split_steps, split_text, split_has_more, split_pattern}
use Rattle.std.proofs.lemmas.Iterator.{YieldsList}
use Rattle.std.proofs.lemmas.Iterator.Splits.{YieldsList-from_str_split}
use Rattle.zf_base.specs.declared.shape.ShapeFault.{ShapeFault}
use Rattle.zf_spec.specs.Grid.{IsShape}
use Rattle.zf_words.{specs.Words.{shape_word}, proofs.Decimals.{decimal_has_no}}

-- the letter at which a shape is cut
abbrev pub is_x : ℕ → Bool
is_x b = eqb b 120

-- what a word is cut into
abbrev pub parts_of : List ℕ → List (List ℕ)
parts_of word = slice_split is_x word

-- a `split` of a word at that letter gives its parts
pub YieldsList-parts : {s : _} (word : List ℕ) (split : Split ℕ) → s ≡ split → split_text split ≡ word → split_has_more split ≡ true → split_pattern split ≡ 120 → YieldsList (split_steps FindsChar (λ a b. b ≡ a)) (λ part. part.now) s (parts_of word)
YieldsList-parts word split same text more pattern =
    YieldsList-from_str_split 120 word (lit< tt) (ap split_text same ∙ text) (ap split_has_more same ∙ more) (ap split_pattern same ∙ pattern)

no_x : (n : ℕ) → n < 2 ^ 64 → All (λ b. is_x b ≡ false) (decimal n)
no_x n small = All-from_get_or (λ b. is_x b ≡ false) (decimal n) 0 (λ i lt. ne_eqb (get_or (decimal n) i 0) 120 (decimal_has_no n 120 i small (λ r. omega arith) lt))

-- joined numbers are cut into these numbers
pub parts_of-joined : (ns : List ℕ) → 1 ≤ length ns → AllByRecursion (λ n. n < 2 ^ 64) ns → parts_of (shape_word ns) ≡ map decimal ns
parts_of-joined [] some small = absurd (omega arith)
parts_of-joined (n ∷ []) some small = slice_split_none is_x (decimal n) (no_x n small.0)
parts_of-joined (n ∷ m ∷ ns) some small =
    slice_split_at is_x (decimal n) 120 (shape_word (m ∷ ns)) (no_x n small.0) refl
    ∙ ap (λ rest. decimal n ∷ rest) (parts_of-joined (m ∷ ns) (omega arith) small.1)

field_small : (d n : ℕ) → 1 ≤ d → n ≤ 2 ^ (48 / d) → n < 2 ^ 64
field_small d n some h = search (rules, div-le_self, pow_mono)

fields_small : (d : ℕ) (ns : List ℕ) → 1 ≤ d → AllByRecursion (λ n. n ≤ 2 ^ (48 / d)) ns → AllByRecursion (λ n. n < 2 ^ 64) ns
fields_small d [] some h = tt
fields_small d (n ∷ ns) some h = (field_small d n some h.0, fields_small d ns some h.1)

-- the sizes of a shape are numbers of 64 bits
pub sizes_small : (ns : List ℕ) → IsShape ns → AllByRecursion (λ n. n < 2 ^ 64) ns
sizes_small ns shape = fields_small (length ns) ns shape.some_dimension shape.fields

size_small : (ns : List ℕ) (k : ℕ) → AllByRecursion (λ n. n < 2 ^ 64) ns → k < length ns → get_or ns k 0 < 2 ^ 64
size_small (n ∷ ns) (suc k) all lt = size_small ns k all.1 (omega arith)
size_small _ k all lt = search rules

-- the word of a shape is cut into its sizes
pub parts_of-shape : (word ns : List ℕ) → IsShape ns → word ≡ shape_word ns → parts_of word ≡ map decimal ns
parts_of-shape word ns shape is = ap parts_of is ∙ parts_of-joined ns shape.some_dimension (sizes_small ns shape)

-- numbers with the same texts are the same
pub decimals_injective : (ms ns : List ℕ) → AllByRecursion (λ n. n < 2 ^ 64) ms → AllByRecursion (λ n. n < 2 ^ 64) ns → map decimal ms ≡ map decimal ns → ms ≡ ns
decimals_injective [] [] a b same = refl
decimals_injective (m ∷ ms) (n ∷ ns) a b same =
    let head : decimal m ≡ decimal n = cc in
    let tail : map decimal ms ≡ map decimal ns = cc in
    let first = decimal_injective m n a.0 b.0 head in
    let rest = decimals_injective ms ns a.1 b.1 tail in
    cc
decimals_injective _ _ a b same = absurd (cc)

-- a part that a shape's word is cut into is a number
pub part_is_number : (word ns part : List ℕ) (k : ℕ) → IsShape ns → word ≡ shape_word ns → k < length (parts_of word) → part ≡ get_or (parts_of word) k part → (n : ℕ) × (n < 2 ^ 64) × (part ≡ decimal n)
part_is_number word ns part k shape is lt at =
    let cut = parts_of-shape word ns shape is in
    let in_range : k < length ns = omega (arith, lt, ap length cut, length-map ns decimal) in
    (get_or ns k 0, size_small ns k (sizes_small ns shape) in_range, at ∙ (ap (λ parts. get_or parts k part) cut ∙ get_or-map decimal ns k 0 part in_range))

-- it is cut into at most four
pub four_parts : (word ns : List ℕ) → IsShape ns → word ≡ shape_word ns → length (parts_of word) ≤ 4
four_parts word ns shape is = omega (arith, ap length (parts_of-shape word ns shape is), length-map ns decimal, shape.four_at_most)

-- any word is cut into one at least
pub some_part : (word : List ℕ) → 1 ≤ length (parts_of word)
some_part word = omega (arith, length-slice_split is_x word)

-- a word that is cut into numbers is these numbers, joined
pub joined-parts_of : (word ns : List ℕ) → parts_of word ≡ map decimal ns → word ≡ shape_word ns
joined-parts_of word ns cut = sym (join_with_byte-slice_split 120 word) ∙ ap (join_with_byte 120) cut

-- the word of a shape that is cut into these numbers is that of these numbers
pub same_shape : (word ms ns : List ℕ) → AllByRecursion (λ n. n < 2 ^ 64) ms → parts_of word ≡ map decimal ms → IsShape ns → word ≡ shape_word ns → IsShape ms
same_shape word ms ns small cut shape is =
    subst IsShape (decimals_injective ns ms (sizes_small ns shape) small (sym (parts_of-shape word ns shape is) ∙ cut)) shape

-- a list of four numbers by its elements

all_push : (P : ℕ → Type 0) (ns : List ℕ) (n : ℕ) → AllByRecursion P ns → P n → AllByRecursion P (ns ++ n ∷ [])
all_push P [] n all this = (this, tt)
all_push P (m ∷ ns) n all this = (all.0, all_push P ns n all.1 this)

-- one more size, and its text
pub sizes_more : (P : ℕ → Type 0) (sizes : List ℕ) (dims n : ℕ) → dims < length sizes → AllByRecursion P (take dims sizes) → P n → AllByRecursion P (take (dims + 1) (set sizes dims n))
sizes_more P sizes dims n lt all this = subst (AllByRecursion P) (sym (take_more_set sizes dims n lt)) (all_push P (take dims sizes) n all this)

pub texts_more : {Part : Type 0} (text : Part → List ℕ) (parts : List Part) (part : Part) (sizes : List ℕ) (dims n : ℕ) → dims < length sizes → map text parts ≡ map decimal (take dims sizes) → text part ≡ decimal n → map text (parts ++ part ∷ []) ≡ map decimal (take (dims + 1) (set sizes dims n))
texts_more text parts part sizes dims n lt so_far this = search (rules, map-append, take_more_set)

-- ---- what `Shape::new` answers for sizes that are a word's parts
pub shape_some : (word sizes : List ℕ) (r : Result (List ℕ) ShapeFault) (o : Option (List ℕ)) → parts_of word ≡ map decimal sizes → (IsOk r ↔ IsShape sizes) → IfOk r (λ shape. shape ≡ sizes) → o ≡ result_ok r → IfSome o (λ shape. IsShape shape × (word ≡ shape_word shape))
shape_some word sizes (Ok shape) o cut iff same is =
    rw (is, same) (iff.0 refl, joined-parts_of word sizes cut)
shape_some word sizes (Err e) o cut iff same is = rw is tt

pub shape_none : (word sizes : List ℕ) (r : Result (List ℕ) ShapeFault) (o : Option (List ℕ)) → AllByRecursion (λ n. n < 2 ^ 64) sizes → parts_of word ≡ map decimal sizes → (IsOk r ↔ IsShape sizes) → o ≡ result_ok r → IfNone o ((ns : List ℕ) → IsShape ns → word ≢ shape_word ns)
shape_none word sizes (Ok shape) o small cut iff is = rw is tt
shape_none word sizes (Err e) o small cut iff is = rw is (λ ns shape spelled. let ok = iff.1 (same_shape word sizes ns small cut shape spelled) in absurd (cc))

-- ---- a shape's word, size by size
joined_more : (ns : List ℕ) (k : ℕ) → k < length ns → 1 ≤ k → shape_word (take (suc k) ns) ≡ shape_word (take k ns) ++ 120 ∷ decimal (get_or ns k 1)
joined_more (n ∷ m ∷ ns) (suc (suc j)) lt some =
    ap (λ rest. decimal n ++ 120 ∷ rest) (joined_more (m ∷ ns) (suc j) (omega arith) (omega arith))
    ∙ sym (append_assoc (decimal n) (120 ∷ shape_word (take (suc j) (m ∷ ns))) (120 ∷ decimal (get_or ns j 1)))
joined_more _ k lt some = search rules

pub shape_word_more : (ns text start : List ℕ) (k : ℕ) → k < length ns → 1 ≤ k → text ≡ (start ++ shape_word (take k ns)) ++ 120 ∷ decimal (get_or ns k 1) → text ≡ start ++ shape_word (take (k + 1) ns)
shape_word_more ns text start k lt some is =
    is ∙ (append_assoc start (shape_word (take k ns)) (120 ∷ decimal (get_or ns k 1))
    ∙ ap (λ word. start ++ word) (sym (joined_more ns k lt some) ∙ ap (λ i. shape_word (take i ns)) (sym (add-one k))))
