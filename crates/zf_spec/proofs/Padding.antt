-- The padded block and the values that exist.
use Rattle.std.proofs.Common.{rules, ◌≡◌, refl, sym, ap, ◌∙◌, ℕ, ◌+◌, ◌*◌, ◌/◌, ◌%◌, ◌^◌, ◌<◌, ◌≤◌, true, cond, ltb, ltb-true, lt-ltb, ℤ, pos, FitsSigned, List, [], ◌∷◌, length, get_or, All, pow-suc, arith}
use Rattle.std.{proofs.lemmas.Bool.{and_parts, cases_lt}, proofs.lemmas.List.{get_or_past}, specs.Int.{Width}}
use Rattle.std.proofs.lemmas.List.Elements.{All-head, All-tail, All-from_get_or}
use Rattle.zf_spec.{specs.Grid.{indices, is_inside}, specs.Padding.{sources, source_place, pad}}
use Rattle.zf_spec.{specs.Codes.{existing_values}, proofs.Wrapping.{zero_fits}}
use Rattle.zf_spec.proofs.Counting.{length-map-upto, get_or-map-upto, map-upto_same}

-- extents of a block: from 1 to 4 along each axis
abbrev pub IsExtent : ℕ → Type 0
IsExtent e = (1 ≤ e) × (e ≤ 4)

-- ---- where the values of a padded line are taken from

-- a value that exists stays where it is
sources_inside : (e i : ℕ) → IsExtent e → i < e → get_or (sources e) i 0 ≡ i
sources_inside e i h l = grind arith

-- each of the four is taken from a value that exists
sources_below : (e i : ℕ) → IsExtent e → get_or (sources e) i 0 < e
sources_below e i h = grind arith

-- ---- the places that a padded block is taken from

pub source_place_below : (es : List ℕ) (p : ℕ) → All IsExtent es → source_place es p < 4 ^ length es
source_place_below [] p h = omega arith
source_place_below (e ∷ es) p h =
    let fine : IsExtent e = All-head IsExtent e es h in
    let rest = source_place_below es (p / 4) (All-tail IsExtent e es h) in
    omega (arith, sources_below e (p % 4) fine, fine.1, rest, pow-suc 4 (length es))

-- it is a place that exists
pub source_place_inside : (es : List ℕ) (p : ℕ) → All IsExtent es → is_inside es (indices (length es) (source_place es p)) ≡ true
source_place_inside [] p h = refl
source_place_inside (e ∷ es) p h =
    let fine : IsExtent e = All-head IsExtent e es h in
    let s = get_or (sources e) (p % 4) 0 in
    let r = source_place es (p / 4) in
    let below : s < e = sources_below e (p % 4) fine in
    let first : (s + 4 * r) % 4 ≡ s = omega (arith, fine.1) in
    let others : (s + 4 * r) / 4 ≡ r = omega (arith, fine.1) in
    cc (lt-ltb s e below, source_place_inside es (p / 4) (All-tail IsExtent e es h))

-- a place that exists is taken from itself
pub source_place_existing : (es : List ℕ) (p : ℕ) → All IsExtent es → p < 4 ^ length es → is_inside es (indices (length es) p) ≡ true → source_place es p ≡ p
source_place_existing [] p h l i = omega arith
source_place_existing (e ∷ es) p h l i =
    let parts = and_parts (ltb (p % 4) e) (is_inside es (indices (length es) (p / 4))) i in
    let first = sources_inside e (p % 4) (All-head IsExtent e es h) (ltb-true (p % 4) e parts.0) in
    omega (arith, pow-suc 4 (length es), source_place_existing es (p / 4) (All-tail IsExtent e es h) (omega (arith, pow-suc 4 (length es))) parts.1)

-- ---- the padded block

pub length-pad : (es : List ℕ) (block : List ℤ) → length (pad es block) ≡ 4 ^ length es
unfolding pad
length-pad es block = length-map-upto (λ p. get_or block (source_place es p) (pos 0)) (4 ^ length es)

pub get_or-pad : (es : List ℕ) (block : List ℤ) (p : ℕ) → p < 4 ^ length es → get_or (pad es block) p (pos 0) ≡ get_or block (source_place es p) (pos 0)
unfolding pad
get_or-pad es block p h = get_or-map-upto (λ p. get_or block (source_place es p) (pos 0)) (4 ^ length es) p (pos 0) h

pub length-existing_values : (es : List ℕ) (block : List ℤ) → length (existing_values es block) ≡ 4 ^ length es
unfolding existing_values
length-existing_values es block = length-map-upto (λ p. cond (is_inside es (indices (length es) p)) (get_or block p (pos 0)) (pos 0)) (4 ^ length es)

pub get_or-existing_values : (es : List ℕ) (block : List ℤ) (p : ℕ) → p < 4 ^ length es → get_or (existing_values es block) p (pos 0) ≡ cond (is_inside es (indices (length es) p)) (get_or block p (pos 0)) (pos 0)
unfolding existing_values
get_or-existing_values es block p h = get_or-map-upto (λ p. cond (is_inside es (indices (length es) p)) (get_or block p (pos 0)) (pos 0)) (4 ^ length es) p (pos 0) h

pub get_or-existing_inside : (es : List ℕ) (block : List ℤ) (p : ℕ) → p < 4 ^ length es → is_inside es (indices (length es) p) ≡ true → get_or (existing_values es block) p (pos 0) ≡ get_or block p (pos 0)
get_or-existing_inside es block p h i = get_or-existing_values es block p h ∙ ap (λ t. cond t (get_or block p (pos 0)) (pos 0)) i

-- blocks that agree at the places that exist have the same existing values
pub existing_same : (es : List ℕ) (a b : List ℤ) → ((p : ℕ) → p < 4 ^ length es → is_inside es (indices (length es) p) ≡ true → get_or a p (pos 0) ≡ get_or b p (pos 0)) → existing_values es a ≡ existing_values es b
unfolding existing_values
existing_same es a b same = search (rules, map-upto_same)

-- the values that exist are those of the block
pub existing_values-pad : (es : List ℕ) (block : List ℤ) → All IsExtent es → existing_values es (pad es block) ≡ existing_values es block
existing_values-pad es block ok = existing_same es (pad es block) block (λ p h i. get_or-pad es block p h ∙ ap (λ q. get_or block q (pos 0)) (source_place_existing es p ok h i))

pub existing_values-existing_values : (es : List ℕ) (block : List ℤ) → existing_values es (existing_values es block) ≡ existing_values es block
existing_values-existing_values es block = existing_same es (existing_values es block) block (λ p h i. get_or-existing_inside es block p h i)

-- the padded block looks at existing values only
pub pad-existing_values : (es : List ℕ) (block : List ℤ) → All IsExtent es → pad es (existing_values es block) ≡ pad es block
unfolding pad
pad-existing_values es block ok = search (rules, map-upto_same, get_or-existing_inside, source_place_below, source_place_inside)

pub pad_same : (es : List ℕ) (a b : List ℤ) → All IsExtent es → existing_values es a ≡ existing_values es b → pad es a ≡ pad es b
pad_same es a b ok e = sym (pad-existing_values es a ok) ∙ ap (pad es) e ∙ pad-existing_values es b ok

-- ---- what holds of each value of the block, and of 0

pub get_or_all : (P : ℤ → Type 0) (vs : List ℤ) (k : ℕ) → P (pos 0) → All P vs → P (get_or vs k (pos 0))
get_or_all P vs k z all = search (rules, get_or_past, cases_lt)

-- the padded block of values of the type has values of the type, and so have the existing values
pub pad_fits : (w : Width) (es : List ℕ) (block : List ℤ) → All (λ v. FitsSigned w v) block → All (λ v. FitsSigned w v) (pad es block)
pad_fits w es block all =
    All-from_get_or (λ v. FitsSigned w v) (pad es block) (pos 0)
    (λ p s.
    rw (get_or-pad es block p (omega (arith, s, length-pad es block)))
    (get_or_all (λ v. FitsSigned w v) block (source_place es p) (zero_fits w) all))
