-- How long the tail of a plane is: a group bit for each one, a digit for each rank up to the last one, and the end.
use Rattle.std.proofs.Common.{rules, ◌≡◌, ℕ, zero, suc, ◌+◌, ◌-◌, ◌*◌, ◌/◌, ◌%◌, ◌^◌, ◌<◌, ◌≤◌, max, Bool, true, false, cond, eqb, List, [], ◌∷◌, ◌++◌, length, take, drop, map, get_or, count_by, refl, sym, ap, ◌∙◌, arith, length-append, pow-suc}
use Rattle.std.{proofs.lemmas.Bool.{false≢true}, specs.Int.Bits.{bit_and}}
use Rattle.std.{specs.Int.Count.{ones as number_ones}, proofs.lemmas.Nat.{ones_le_self, mod_below, pow_pos}}
use Rattle.std.proofs.lemmas.List.{length-map, length-take, take-append-drop, drop-drop, length-drop}
use Rattle.std.proofs.lemmas.List.Sums.{sum_by-cons, sum_by-append, count_by-le-length}
use lib.Count.{ones_step}
use Rattle.zf_spec.specs.Planes.{has_one, reach, group, code_from_run, tail, plane_code, code}
use Rattle.zf_spec.{specs.Numbers.{is_odd, field}, specs.HeldPlanes.{digits_held, planes_held}}
use Rattle.zf_spec.{proofs.Fields.{field-mod}, proofs.Reach.{reach_none, reach_some, reach-le}}
use Rattle.zf_spec.{proofs.PlaneCode.{length-code-le}, proofs.HeldPlanes.{length-digits_held}}
use Rattle.zf_planes.proofs.Digits.{masked, field_in_word}
use Rattle.zf_planes.proofs.Unpacking.{length-top_held, sizes-top_words, each_long}

-- what is known of the lengths of planes, of how many ones they have and how far these reach
pub ruleset plane_lengths = (length-digits_held, count_by-le-length, length-drop, reach-le)

-- how many ones there are
abbrev pub ones : List Bool → ℕ
ones ds = count_by (λ d. d) ds

ones_one : (ds : List Bool) → ones (true ∷ ds) ≡ 1 + ones ds
ones_one ds = sum_by-cons (λ d. cond d 1 0) true ds

ones_zero : (ds : List Bool) → ones (false ∷ ds) ≡ 0 + ones ds
ones_zero ds = sum_by-cons (λ d. cond d 1 0) false ds

ones_none : (ds : List Bool) → has_one ds ≡ false → ones ds ≡ 0
ones_none [] none = refl
ones_none (true ∷ ds) none = cc
ones_none (false ∷ ds) none = omega (arith, ones_zero ds, ones_none ds none)

-- the last rank has a one, or there is room behind the last one
abbrev pub HasTailLength : List Bool → ℕ → Type 0
HasTailLength ds n = (reach ds < length ds → n ≡ ones ds + reach ds + 1) × (length ds ≤ reach ds → n ≡ ones ds + reach ds - 1)

group_length : (d : Bool) (ds : List Bool) → (has_one (d ∷ ds) ≡ true → HasTailLength (d ∷ ds) (suc (length (code_from_run (d ∷ ds))))) → HasTailLength (d ∷ ds) (length (group (d ∷ ds) (code_from_run (d ∷ ds))))
group_length d ds run = search (rules, reach_none, ones_none)

-- a digit d more in front
one_more : (d r l o n r' o' n' : ℕ) → 1 ≤ l → (r < l → n ≡ o + r + 1) × (l ≤ r → n ≡ o + r - 1) → r' ≡ suc r → o' ≡ d + o → n' ≡ suc (d + n)
    → (r' < suc l → n' ≡ o' + r' + 1) × (suc l ≤ r' → n' ≡ o' + r' - 1)
one_more d r l o n r' o' n' some rest far more long = (λ below. let e = rest.0 (omega arith) in omega arith, λ past. let e = rest.1 (omega arith) in omega arith)

run_length : (d : Bool) (ds : List Bool) → has_one (d ∷ ds) ≡ true → HasTailLength (d ∷ ds) (suc (length (code_from_run (d ∷ ds))))
run_length true [] one = (λ below. absurd (omega arith), λ past. refl)
run_length false [] one = absurd (false≢true one)
run_length true (e ∷ ds) one =
    one_more 1 (reach (e ∷ ds)) (suc (length ds)) (ones (e ∷ ds)) (length (tail (e ∷ ds))) _ _ _ (omega arith) (group_length e ds (run_length e ds)) refl (ones_one (e ∷ ds)) (omega arith)
run_length false (e ∷ ds) one =
    one_more 0 (reach (e ∷ ds)) (suc (length ds)) (ones (e ∷ ds)) (suc (length (code_from_run (e ∷ ds)))) _ _ _ (omega arith) (run_length e ds one) (reach_some false (e ∷ ds) one) (ones_zero (e ∷ ds)) (omega arith)

pub length-tail : (ds : List Bool) → HasTailLength ds (length (tail ds))
length-tail [] = (λ below. absurd (omega arith), λ past. refl)
length-tail (d ∷ ds) = group_length d ds (run_length d ds)

pub length-plane_code : (n : ℕ) (ds : List Bool) → n ≤ length ds → length (plane_code n ds) ≡ n + length (tail (drop n ds))
length-plane_code n ds within = length-append (take n ds) (tail (drop n ds)) ∙ omega (arith, length-take n ds)

-- the code of planes has at most as many bits as they have digits, and a group bit for each rank
pub length-code_words-le : {A : Type 0} (words : A → List ℕ) (count prec size : ℕ) (planes : List A) → ((plane : A) → length (words plane) ≡ count) → size ≤ 64 * count → prec ≤ length planes
    → length (code (take prec (planes_held size (map words planes)))) ≤ size * prec + size
length-code_words-le words count prec size planes long enough within =
    let all = map words planes in
    let same = length-map planes words in
    let sizes = sizes-top_words prec size all (λ i below. let has = each_long words count long planes i (omega arith) in omega arith) in
    rw (length-top_held prec size all (omega arith)) at (length-code-le size (take prec (planes_held size all)) sizes)

-- ---- the ones of a word

digit_of : (k : ℕ) → k < 2 → k ≡ cond (eqb k 1) 1 0
digit_of (suc (suc k)) small = absurd (omega arith)
digit_of k small = refl

field_ones : (n v : ℕ) → v < 2 ^ n → number_ones v ≡ ones (field n v)
field_ones zero v small = omega (arith, ones_le_self v)
field_ones (suc n) v small =
    let rest = field_ones n (v / 2) (omega (arith, pow-suc 2 n)) in
    let first = digit_of (v % 2) (omega arith) in
    let both = sum_by-cons (λ d. cond d 1 0) (is_odd v) (field n (v / 2)) in
    omega (arith, ones_step v, rest, first, both)

-- the ones of digits that lie in one word
pub part_ones : (size at n w : ℕ) (ws : List ℕ) → w ≡ get_or ws (at / 64) 0 → size ≤ 64 * length ws → at % 64 + n ≤ 64 → at + n ≤ size
    → number_ones (bit_and (w / 2 ^ (at % 64)) (18446744073709551615 / 2 ^ (64 - n))) ≡ ones (take n (drop at (digits_held size ws)))
part_ones size at n w ws is long same within =
    let v = w / 2 ^ (at % 64) in
    cc (
      masked v n (omega arith),
      field_ones n (v % 2 ^ n) (mod_below v (2 ^ n) (pow_pos n)),
      field-mod n v,
      field_in_word size at n w ws is long same within,
    )

-- and those behind them
pub ones_split : (at n : ℕ) (ds : List Bool) → ones (drop at ds) ≡ ones (take n (drop at ds)) + ones (drop (at + n) ds)
ones_split at n ds =
    ap ones (sym (take-append-drop n (drop at ds)) ∙ ap (λ (xs : List Bool). take n (drop at ds) ++ xs) (drop-drop n at ds))
    ∙ sum_by-append (λ d. cond d 1 0) (take n (drop at ds)) (drop (at + n) ds)

-- ---- how far the ones of the ranks behind n reach

pub reach-drop : (n : ℕ) (ds : List Bool) → reach (drop n ds) ≡ reach ds - n
reach-drop zero ds = omega arith
reach-drop (suc n) [] = omega arith
reach-drop (suc n) (d ∷ ds) = by (reach-drop n ds) (has_one (d ∷ ds)) refl
  where
    none_behind : (d : Bool) → has_one (d ∷ ds) ≡ false → has_one ds ≡ false
    none_behind true none = cc
    none_behind false none = none

    by : reach (drop n ds) ≡ reach ds - n → (t : Bool) → has_one (d ∷ ds) ≡ t → reach (drop n ds) ≡ cond t (suc (reach ds)) 0 - suc n
    by rest true one = omega (arith, rest)
    by rest false none = omega (arith, rest, reach_none ds (none_behind d none))

-- so long is the code of a plane whose ones from rank n on, and their reach, are known
pub plane_length : (n : ℕ) (ds : List Bool) → n ≤ length ds
    → (max n (reach ds) < length ds → length (plane_code n ds) ≡ n + (ones (drop n ds) + (reach ds - n)) + 1)
    × (length ds ≤ max n (reach ds) → length (plane_code n ds) ≡ n + (ones (drop n ds) + (reach ds - n) - 1))
plane_length n ds within =
    let whole = length-plane_code n ds within in
    let reached = reach-drop n ds in
    let behind = length-drop n ds in
    let tail_long = length-tail (drop n ds) in
    (λ below. omega (arith, tail_long.0 (omega arith)), λ past. omega (arith, tail_long.1 (omega arith)))
