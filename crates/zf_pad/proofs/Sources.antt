-- Padding in place: each place takes the value of its source.
use Rattle.std.proofs.Common.{rules, ◌≡◌, ℕ, zero, suc, ◌+◌, ◌-◌, ◌*◌, ◌/◌, ◌%◌, ◌^◌, ◌<◌, ◌≤◌, true, ℤ, pos, List, [], ◌∷◌, ◌++◌, length, get_or, set, replicate, All, refl, ap, sym, ◌∙◌, ⊎_elim, arith, ext_get_or, pow-suc}
use Rattle.std.proofs.lemmas.{Bool.{cases_lt}, List.{length-map}}
use Rattle.zf_spec.{specs.Grid.{fours}, specs.Padding.{sources, source_place, pad}}
use Rattle.zf_spec.proofs.Padding.{IsExtent as IsSize, source_place_below, source_place_inside, source_place_existing, length-pad, get_or-pad}
use Rattle.zf_spec.proofs.Raster.{length-fours}
use Rattle.zf_base.{specs.declared.position.Extent.{Extent}, specs.Positions.{axes, used_axes, IsExtent}}
use Rattle.zf_pad.proofs.Writes.{IsWritten, written_none, written_more}
use Rattle.zf_pad.proofs.Sizes.{used_length, used_sizes, size_axes}

-- ---- the source of a place

-- along more axes of size 1 it stays
source_place-ones : (es : List ℕ) (k p : ℕ) → source_place (es ++ replicate k 1) p ≡ source_place es p
source_place-ones [] zero p = refl
source_place-ones [] (suc k) p = omega (arith, first (p % 4), source_place-ones [] k (p / 4))
  where
    first : (i : ℕ) → get_or (sources 1) i 0 ≡ 0
    first zero = refl
    first (suc zero) = refl
    first (suc (suc zero)) = refl
    first (suc (suc (suc zero))) = refl
    first (suc (suc (suc (suc i)))) = refl
source_place-ones (e ∷ es) k p = ap (λ q. get_or (sources e) (p % 4) 0 + 4 * q) (source_place-ones es k (p / 4))

-- so four axes tell it
source_place-axes : (d : ℕ) (e : Extent) (p : ℕ) → d ≤ 4 → IsExtent d e → source_place (axes e.size) p ≡ source_place (used_axes d e.size) p
source_place-axes d e p dims h = ap (λ es. source_place es p) (size_axes d e dims h) ∙ source_place-ones (used_axes d e.size) (4 - d) p

pub value_of_source : (d : ℕ) (e : Extent) (block : List ℤ) (p i : ℕ) (v : ℤ) → d ≤ 4 → IsExtent d e → i ≡ source_place (axes e.size) p → v ≡ get_or block i (pos 0) → v ≡ get_or block (source_place (used_axes d e.size) p) (pos 0)
value_of_source d e block p i v dims h is read = read ∙ ap (λ q. get_or block q (pos 0)) (is ∙ source_place-axes d e p dims h)

-- it is a place of the block
pub source_in_block : (d : ℕ) (e : Extent) (p : ℕ) → d ≤ 4 → IsExtent d e → source_place (axes e.size) p < 4 ^ d
source_in_block d e p dims h =
    let below = source_place_below (used_axes d e.size) p (used_sizes d e dims h) in
    omega (arith, source_place-axes d e p dims h, below, ap (λ k. 4 ^ k) (used_length d e dims h))

-- a source is its own source
source_of_source : (es : List ℕ) (p : ℕ) → All IsSize es → source_place es (source_place es p) ≡ source_place es p
source_of_source es p ok = source_place_existing es (source_place es p) ok (source_place_below es p ok) (source_place_inside es p ok)

-- ---- a whole block

-- each of its places is its own source
source_place-fours : (d p : ℕ) → p < 4 ^ d → source_place (fours d) p ≡ p
source_place-fours zero p h = omega arith
source_place-fours (suc d) p h =
    let rest = source_place-fours d (p / 4) (omega (arith, pow-suc 4 d)) in search rules

-- so it is padded already
pub pad-whole : (d : ℕ) (es : List ℕ) (block : List ℤ) → es ≡ fours d → length block ≡ 4 ^ d → block ≡ pad es block
pad-whole d es block whole long =
    let count = ap (λ n. 4 ^ n) (length-fours d) in
    ext_get_or (pos 0) block (pad (fours d) block) (long ∙ sym count ∙ sym (length-pad (fours d) block))
    (λ p lt. sym (get_or-pad (fours d) block p (omega (arith, count)) ∙ ap (λ q. get_or block q (pos 0)) (source_place-fours d p (omega arith))))
    ∙ ap (λ xs. pad xs block) (sym whole)

-- ---- the block so far

-- the places below n are padded, the others as they were
pub IsPadded : List ℕ → List ℤ → List ℤ → ℕ → Type 0
IsPadded es old now n = IsWritten (λ p. true) (λ p. p) (λ p. get_or old (source_place es p) (pos 0)) old now n

pub padded_none : (es : List ℕ) (old : List ℤ) → IsPadded es old old 0
unfolding IsPadded
padded_none es old = written_none (λ p. true) (λ p. p) (λ p. get_or old (source_place es p) (pos 0)) old

-- a source still has its value
source_stays : (es : List ℕ) (old now : List ℤ) (n : ℕ) → All IsSize es → IsPadded es old now n → get_or now (source_place es n) (pos 0) ≡ get_or old (source_place es n) (pos 0)
unfolding IsPadded
source_stays es old now n ok h =
    let s = source_place es n in
    ⊎_elim
    (λ before. h.written s before refl ∙ ap (λ p. get_or old p (pos 0)) (source_of_source es n ok))
    (λ after. h.others s (λ p lt w e. omega arith))
    (cases_lt s n)

pub padded_more : (es : List ℕ) (old now : List ℤ) (n : ℕ) (v : ℤ) → All IsSize es → n < length now → v ≡ get_or now (source_place es n) (pos 0) → IsPadded es old now n → IsPadded es old (set now n v) (n + 1)
unfolding IsPadded
padded_more es old now n v ok inside is h =
    written_more (λ p. true) (λ p. p) (λ p. get_or old (source_place es p) (pos 0)) old now n v refl inside (λ p lt w e. omega arith) (is ∙ source_stays es old now n ok h) h

pub padded_all : (es : List ℕ) (old now : List ℤ) (n : ℕ) → n ≡ 4 ^ length es → length now ≡ n → IsPadded es old now n → now ≡ pad es old
unfolding IsPadded
padded_all es old now n whole long h =
    ext_get_or (pos 0) now (pad es old) (long ∙ whole ∙ sym (length-pad es old))
    (λ p lt. h.written p (omega arith) refl ∙ sym (get_or-pad es old p (omega arith)))

-- blocks that are padded place by place
pub ruleset padding = (length-map, used_length, padded_none, padded_all, pad-whole)
