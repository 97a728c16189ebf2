-- The code of zeros and of a run as numbers: planes without a one, and a group bit with the run behind it.
use Rattle.std.proofs.Common.{rules, ◌≡◌, ℕ, zero, suc, ◌+◌, ◌-◌, ◌*◌, ◌%◌, ◌^◌, ◌<◌, ◌≤◌, min, max, Bool, true, false, List, [], ◌∷◌, ◌++◌, length, take, replicate, take_at, refl, sym, ap, ◌∙◌, arith, append_assoc, length-append, length-take, lit<}
use Rattle.std.{specs.Int.Bits.{bit_or}, proofs.Math.Nat.{mod-eq_of_lt, pow-le-pow_right}, proofs.lemmas.Bool.{cases_lt}}
use Rattle.std.proofs.lemmas.List.{take-take, take_all, take-append-le, take-replicate, length-replicate}
use Rattle.zf_spec.{specs.Numbers.{field, number}, specs.Planes.{code_from, reach, tail}}
use Rattle.zf_spec.proofs.Fields.{field-zero, length-field, number-field, number-append, number-zeros, number-lt}
use Rattle.zf_spec.proofs.Reach.{reach_none, has_one-zeros}
use Rattle.zf_bits.{proofs.Fields.{take-field}, proofs.Words.{field_or}}
use Rattle.zf_planes.proofs.Runs.{tail_none}

-- ---- a prefix as far as two limits reach

pub take_both : {A : Type 0} (left n : ℕ) (xs : List A) → take left (take n xs) ≡ take (min left n) xs
take_both {A} left n xs = search (rules, take-take, take_all, length-take, cases_lt)

pub take_zeros : (left k : ℕ) → take left (replicate k false) ≡ replicate (min left k) false
take_zeros left k = search (rules, take-replicate, take_all, length-replicate, cases_lt)

-- ---- a number whose last digits are zeros

pub field_before : (k z v : ℕ) (bs : List Bool) → v < 2 ^ k → field k v ≡ bs ++ replicate z false → (field (length bs) v ≡ bs) × (v < 2 ^ length bs) × (length bs + z ≡ k)
field_before k z v bs small is =
    let sum : length bs + z ≡ k = omega (arith, ap length is, length-field k v, length-append bs (replicate z false), length-replicate z false) in
    let whole : v ≡ number bs =
    sym (number-field k v ∙ mod-eq_of_lt small) ∙ ap number is ∙ number-append bs (replicate z false) ∙ ap (λ n. number bs + 2 ^ length bs * n) (number-zeros z) ∙ omega arith in (
      sym (take-field (length bs) z v) ∙ ap (λ j. take (length bs) (field j v)) sum ∙ ap (take (length bs)) is ∙ take_at bs (replicate z false) (length bs) refl,
      rw (← whole) at (number-lt bs),
      sum,
    )

-- ---- planes without a one

pub zero_code : (k size : ℕ) (ps : List (List Bool)) → 0 < size → code_from 0 (replicate k (replicate size false) ++ ps) ≡ replicate k false ++ code_from 0 ps
zero_code zero size ps some = refl
zero_code (suc k) size ps some =
    let zeros = replicate size false in
    let one : tail zeros ≡ false ∷ [] = tail_none zeros (omega (arith, length-replicate size false)) (has_one-zeros size) in
    let low : max 0 (reach zeros) ≡ 0 = omega (arith, reach_none zeros (has_one-zeros size)) in
    cc (zero_code k size ps some)

-- ---- a group bit of one, so many zeros and a one, as a number

pub run_field : (z n : ℕ) → z + 2 ≤ 64 → n ≤ z + 2 → field n (bit_or 1 (1 * 2 ^ (z + 1) % 2 ^ 64)) ≡ take n (true ∷ (replicate z false ++ true ∷ []))
run_field z n small within =
    let v = bit_or 1 (1 * 2 ^ (z + 1) % 2 ^ 64) in
    let more = 64 - (z + 1) in
    let whole : field 64 v ≡ field (z + 1) 1 ++ field more 1 = field_or 64 (z + 1) more 1 1 (omega arith) (omega (arith, two_or_more)) in
    let parts : n + (64 - n) ≡ 64 = omega arith in
    let count : more ≡ suc (63 - (z + 1)) = omega arith in
    let high : field more 1 ≡ true ∷ field (63 - (z + 1)) 0 = ap (λ k. field k 1) count in
    let next : z + 1 ≡ suc z = omega arith in
    let low : field (z + 1) 1 ≡ true ∷ replicate z false = ap (λ k. field k 1) next ∙ ap (λ (bs : List Bool). true ∷ bs) (field-zero z) in
    let ones = true ∷ (replicate z false ++ true ∷ []) in
    let long : length ones ≡ z + 2 = omega (arith, length-append (replicate z false) (true ∷ []), length-replicate z false) in
    let split : field 64 v ≡ ones ++ field (63 - (z + 1)) 0 =
    whole ∙ ap (λ (bs : List Bool). bs ++ field more 1) low ∙ ap (λ (bs : List Bool). true ∷ (replicate z false ++ bs)) high ∙ sym (append_assoc (true ∷ replicate z false) (true ∷ []) (field (63 - (z + 1)) 0)) in
    sym (take-field n (64 - n) v) ∙ ap (λ k. take n (field k v)) parts ∙ ap (take n) split ∙ take-append-le n ones (field (63 - (z + 1)) 0) (omega arith)
  where
    two_or_more : 2 ^ 1 ≤ 2 ^ (z + 1)
    two_or_more = let order : 1 ≤ z + 1 = omega arith in pow-le-pow_right {n = 2} (lit< tt) order

-- the same of a run in a plane
pub run_of_plane : (ds rest : List Bool) (z k : ℕ) → ds ≡ replicate z false ++ true ∷ rest → k ≤ z + 1 → true ∷ take k ds ≡ take (suc k) (true ∷ (replicate z false ++ true ∷ []))
run_of_plane ds rest z k split within =
    let prefix = replicate z false ++ true ∷ [] in
    let long : length prefix ≡ z + 1 = omega (arith, length-append (replicate z false) (true ∷ []), length-replicate z false) in
    ap (λ (bs : List Bool). true ∷ bs) (ap (take k) (split ∙ sym (append_assoc (replicate z false) (true ∷ []) rest)) ∙ take-append-le k prefix rest (omega arith))
