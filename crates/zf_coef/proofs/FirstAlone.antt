-- Planes in which no coefficient but the first has a one: their bits as a number, and the coefficients that they stand for.
use lib.LanesLaws.{map-replicate}
use Rattle.std.proofs.Common.{◌≡◌, refl, sym, ap, ◌∙◌, ℕ, zero, suc, ◌+◌, ◌-◌, ◌*◌, ◌/◌, ◌%◌, ◌^◌, ◌<◌, ◌≤◌, ⊎_elim, false, ℤ, pos, List, ◌∷◌, map, length, get_or, set, replicate, get_or-set_same, get_or-set_other, arith, ◌≢◌, rules}
use Rattle.std.{specs.Int.{Width, bit_at}, proofs.lemmas.Bool.{cases_lt, cases_eq}}
use Rattle.std.{proofs.lemmas.List.{length-replicate}, proofs.lemmas.Nat.Bits.{bit_at-zero, bit_at_above}}
use mir.Val.{bits}
use Rattle.zf_spec.{specs.Grid.{IsDimension}, specs.Numbers.{field, value_of, digits_sum, wrap}}
use Rattle.zf_spec.{specs.Ranks.{order, by_place}, proofs.Fields.{field-zero}, proofs.Ranking.{rank_of-order}}
use Rattle.zf_spec.proofs.Wrapping.{wrap_value, zero_fits}
use Rattle.zf_base.proofs.Values.{alike_at}
use Rattle.zf_coef.{specs.Turned.{bit_of}, specs.Groups.{word_of}, proofs.ByRank.{ranks_all}}
use Rattle.zf_coef.{specs.HeldDigits.{digits_in, unranked_values}, proofs.Halves.{no_word}}
use Rattle.zf_coef.proofs.Transposed.{HoldsGroups}

-- ---- the coefficients

-- rank 0 is at place 0
pub first_place : (d : ℕ) → IsDimension d → get_or (order d) 0 0 ≡ 0
first_place (suc zero) dims = refl
first_place (suc (suc zero)) dims = refl
first_place (suc (suc (suc zero))) dims = refl
first_place (suc (suc (suc (suc zero)))) dims = refl
first_place d dims = absurd (omega arith)

-- behind the first place of such a list all values are alike
behind_first : {X : Type 0} (v z : X) (n k : ℕ) → 0 < k → get_or (v ∷ replicate n z) k z ≡ z
behind_first v z n k later = grind (arith, alike_at)

by_place_first : (d : ℕ) (v : ℤ) → IsDimension d → 0 < 4 ^ d → by_place d (v ∷ replicate (4 ^ d - 1) (pos 0)) ≡ v ∷ replicate (4 ^ d - 1) (pos 0)
by_place_first d v dims some =
    let block = v ∷ replicate (4 ^ d - 1) (pos 0) in
    let long : length block ≡ 4 ^ d = omega (arith, length-replicate (4 ^ d - 1) (pos 0)) in
    let first = first_place d dims in
    sym (ranks_all d block block long (λ k below. ⊎_elim
    (λ (none : k ≡ 0). rw (none, first) refl)
    (λ later.
    let apart : get_or (order d) k 0 ≢ 0 =
    λ same. later (cc (rank_of-order d k below, rank_of-order d 0 some)) in
    behind_first v (pos 0) (4 ^ d - 1) (get_or (order d) k 0) (omega arith)
    ∙ sym (behind_first v (pos 0) (4 ^ d - 1) k (omega arith)))
    (cases_eq k 0)))

sum_of_none : (n : ℕ) → digits_sum (replicate n false) ≡ pos 0
sum_of_none zero = refl
sum_of_none (suc n) = rw (sum_of_none n) refl

pub value_of_none : (w : Width) (m : ℕ) → value_of w (field m 0) ≡ pos 0
value_of_none w m = ap (value_of w) (field-zero m) ∙ ap (wrap w) (sum_of_none m) ∙ wrap_value w (pos 0) (zero_fits w)

values_of_zeros : (w : Width) (m n : ℕ) → map (value_of w) (digits_in m (replicate n 0)) ≡ replicate n (pos 0)
values_of_zeros w m n = search (rules, map-replicate, value_of_none)

-- the coefficients whose digits these are
pub unranked_first : (w : Width) (d u : ℕ) → IsDimension d → 0 < 4 ^ d
    → unranked_values w d (digits_in (bits w) (u ∷ replicate (4 ^ d - 1) 0)) ≡ value_of w (field (bits w) u) ∷ replicate (4 ^ d - 1) (pos 0)
unranked_first w d u dims some =
    let value = value_of w (field (bits w) u) in
    rw (values_of_zeros w (bits w) (4 ^ d - 1)) (by_place_first d value dims some)

-- ---- the way there

-- the planes below the count hold the digits of the first coefficient alone
pub record HoldsFirst (first count : ℕ) (planes : List (List ℕ)) : Type 0 where
  pub word : (k : ℕ) → k < count → word_of planes 0 k ≡ first / 2 ^ k % 2
  pub others : (p k : ℕ) → 0 < p → k < count → word_of planes p k ≡ 0

pub set_first : (n x : ℕ) → 0 < n → set (replicate n 0) 0 x ≡ x ∷ replicate (n - 1) 0
set_first zero x some = absurd (omega arith)
set_first (suc n) x some = let less : n ≡ suc n - 1 = omega arith in ap (λ k. x ∷ replicate k 0) less

pub first_none : (first : ℕ) (planes : List (List ℕ)) → HoldsFirst first 0 planes
first_none first planes = record { word = λ k h. absurd (omega arith); others = λ p k some h. absurd (omega arith) }

pub first_more : (number first k : ℕ) (planes : List (List ℕ)) (words : List ℕ) → k < length planes → 0 < number → words ≡ set (replicate number 0) 0 (first / 2 ^ k % 2)
    → HoldsFirst first k planes → HoldsFirst first (k + 1) (set planes k words)
first_more number first k planes words within some is before = grind (arith, get_or-set_other, get_or-set_same, length-replicate, cases_lt, no_word)

pub groups_of_first : (number first size : ℕ) (planes : List (List ℕ)) → 0 < size → length planes ≤ 64 → HoldsFirst first (length planes) planes
    → HoldsGroups number (first ∷ replicate (size - 1) 0) planes
groups_of_first number first size planes some few holds = record { each = bit }
  where
    bit : (p k r : ℕ) → p < number → k < length planes → r < 64 → bit_at (word_of planes p k) r ≡ bit_of (first ∷ replicate (size - 1) 0) (64 * p + r) k
    bit zero k zero inside below small = omega (arith, holds.word k below)
    bit zero k (suc r) inside below small =
        rw (behind_first first 0 (size - 1) (64 * 0 + suc r) (omega arith), bit_at-zero k)
        (bit_at_above (word_of planes 0 k) 1 (suc r) (omega (arith, holds.word k below)) (omega arith))
    bit (suc p) k r inside below small =
        let none = holds.others (suc p) k (omega arith) below in
        rw (behind_first first 0 (size - 1) (64 * suc p + r) (omega arith), none, bit_at-zero r, bit_at-zero k) refl
