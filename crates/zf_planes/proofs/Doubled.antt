-- The code of runs: digits before others are doubled, and zeros behind the last one but the first make no difference.
use Rattle.std.proofs.Common.{rules, ◌≡◌, ◌≢◌, ℕ, zero, suc, ◌+◌, ◌-◌, ◌*◌, ◌/◌, ◌%◌, ◌^◌, ◌<◌, ◌≤◌, ⊎_elim, Bool, true, false, cond, ◌&&◌, ◌||◌, ltb, eqb, List, [], ◌∷◌, ◌++◌, get_or, replicate, refl, sym, ap, ◌∙◌, arith, pow-suc, take, drop, append-nil}
use Rattle.std.{proofs.Math.Nat.{pow-le-pow_right, div-eq_of_lt}}
use Rattle.std.{proofs.lemmas.Nat.{pow-add, shr_below}}
use Rattle.std.proofs.lemmas.Bool.{cases_lt, false≢true, and_parts, ltb-true, eqb-false}
use Rattle.zf_spec.{specs.Numbers.{field}, specs.Planes.{has_one, code_from_run, plane_code}}
use Rattle.zf_spec.{proofs.Fields.{field-add, field-mod, field-zero}, proofs.PlaneCode.{tail-zeros}}
use Rattle.zf_spec.{proofs.Full.{tail-some}, proofs.Reach.{has_one-zeros}}
use Rattle.zf_bits.proofs.Fields.{take-field, drop-field, field_more}
use Rattle.zf_planes.{specs.Doubled.{doubled}, specs.declared.entries.TheConstants.{DOUBLED}}
use Rattle.zf_planes.proofs.Tables.{same_digits, same_digits-true, each_below, each_below-true}

-- ---- digits of a run before others

pub has_one-behind : (xs ys : List Bool) → has_one ys ≡ true → has_one (xs ++ ys) ≡ true
has_one-behind [] ys one = one
has_one-behind (true ∷ xs) ys one = refl
has_one-behind (false ∷ xs) ys one = has_one-behind xs ys one

one_doubled : (ds : List Bool) → has_one ds ≡ true → code_from_run (true ∷ ds) ≡ true ∷ true ∷ code_from_run ds
one_doubled [] one = absurd (false≢true one)
one_doubled (d ∷ ds) one = ap (λ t. true ∷ cond t (true ∷ code_from_run (d ∷ ds)) (false ∷ [])) one

zero_once : (ds : List Bool) → has_one ds ≡ true → code_from_run (false ∷ ds) ≡ false ∷ code_from_run ds
zero_once [] one = absurd (false≢true one)
zero_once (d ∷ ds) one = refl

pub run_doubled : (xs ys : List Bool) → has_one ys ≡ true → code_from_run (xs ++ ys) ≡ doubled xs ++ code_from_run ys
run_doubled [] ys one = refl
run_doubled (true ∷ xs) ys one = one_doubled (xs ++ ys) (has_one-behind xs ys one) ∙ ap (λ bs. true ∷ true ∷ bs) (run_doubled xs ys one)
run_doubled (false ∷ xs) ys one = zero_once (xs ++ ys) (has_one-behind xs ys one) ∙ ap (λ bs. false ∷ bs) (run_doubled xs ys one)

-- ---- zeros behind

pub has_one-zeros_behind : (ds : List Bool) (k : ℕ) → has_one (ds ++ replicate k false) ≡ has_one ds
has_one-zeros_behind [] k = has_one-zeros k
has_one-zeros_behind (true ∷ ds) k = refl
has_one-zeros_behind (false ∷ ds) k = has_one-zeros_behind ds k

run_ends : (es : List Bool) → has_one es ≡ false → (n : ℕ) → code_from_run (true ∷ (es ++ replicate (suc n) false)) ≡ true ∷ false ∷ []
run_ends [] none n =
    ap (λ t. true ∷ cond t (true ∷ code_from_run (replicate (suc n) false)) (false ∷ [])) (has_one-zeros (suc n))
run_ends (e ∷ es) none n = ap (λ t. true ∷ cond t (true ∷ code_from_run ((e ∷ es) ++ replicate (suc n) false)) (false ∷ [])) (has_one-zeros_behind (e ∷ es) (suc n) ∙ none)

pub run_zeros_behind : (ds : List Bool) (k : ℕ) → has_one ds ≡ true → code_from_run (ds ++ replicate (suc k) false) ≡ code_from_run (ds ++ false ∷ [])
run_zeros_behind [] k one = absurd (false≢true one)
run_zeros_behind (false ∷ ds) k one =
    cc (
      zero_once (ds ++ replicate (suc k) false) (has_one-zeros_behind ds (suc k) ∙ one),
      run_zeros_behind ds k one,
      zero_once (ds ++ false ∷ []) (has_one-zeros_behind ds 1 ∙ one),
    )
run_zeros_behind (true ∷ ds) k one = by (has_one ds) refl (λ more. run_zeros_behind ds k more)
  where
    by : (t : Bool) → has_one ds ≡ t → (has_one ds ≡ true → code_from_run (ds ++ replicate (suc k) false) ≡ code_from_run (ds ++ false ∷ []))
        → code_from_run (true ∷ (ds ++ replicate (suc k) false)) ≡ code_from_run (true ∷ (ds ++ false ∷ []))
    by true more rest =
        cc (
          one_doubled (ds ++ replicate (suc k) false) (has_one-zeros_behind ds (suc k) ∙ more),
          rest more,
          one_doubled (ds ++ false ∷ []) (has_one-zeros_behind ds 1 ∙ more),
        )
    by false none rest = run_ends ds none k ∙ sym (run_ends ds none 0)

-- ---- a number below 2^n that is not 0 has a one among its n lowest bits

pub has_one-field : (n v : ℕ) → 0 < v → v < 2 ^ n → has_one (field n v) ≡ true
has_one-field zero v some small = absurd (omega arith)
has_one-field (suc n) v some small = by (eqb (v % 2) 1) refl (λ more below. has_one-field n (v / 2) more below)
  where
    by : (t : Bool) → eqb (v % 2) 1 ≡ t → (0 < v / 2 → v / 2 < 2 ^ n → has_one (field n (v / 2)) ≡ true) → has_one (field (suc n) v) ≡ true
    by true odd rest = ap (λ b. b || has_one (field n (v / 2))) odd
    by false even rest =
        let low : v % 2 ≢ 1 = eqb-false (v % 2) 1 even in
        ap (λ b. b || has_one (field n (v / 2))) even ∙ rest (omega arith) (omega (arith, pow-suc 2 n))

-- ---- the tables, by computation

abbrev test_double : ℕ → ℕ → Bool
test_double digits e = same_digits (field (e / 65536) (e % 65536)) (doubled (field 8 digits)) && (ltb (e % 65536) (2 ^ (e / 65536)) && ltb (e / 65536) 17)

test_doubles : each_below (λ digits. test_double digits (get_or DOUBLED digits 0)) 256 ≡ true
test_doubles = refl

pub double_of_entry : (digits : ℕ) → digits < 256 → let e = get_or DOUBLED digits 0 in (e / 65536 < 17) × (e % 65536 < 2 ^ (e / 65536)) × (field (e / 65536) (e % 65536) ≡ doubled (field 8 digits))
double_of_entry digits eight =
    let e = get_or DOUBLED digits 0 in
    let test = each_below-true (λ j. test_double j (get_or DOUBLED j 0)) 256 digits test_doubles eight in
    let one = and_parts (same_digits (field (e / 65536) (e % 65536)) (doubled (field 8 digits))) _ test in
    let two = and_parts (ltb (e % 65536) (2 ^ (e / 65536))) _ one.1 in
    (ltb-true _ _ two.1, ltb-true _ _ two.0, same_digits-true _ _ one.0)

-- ---- more digits make no difference, where they are zeros

pub zeros_behind : (a most digits : ℕ) → a < most → digits < 2 ^ a → field most digits ≡ field a digits ++ replicate (suc (most - suc a)) false
zeros_behind a most digits within small =
    let parts : most ≡ a + suc (most - suc a) = omega arith in
    let none : digits / 2 ^ a ≡ 0 = div-eq_of_lt small in search (rules, field-add, field-zero)

-- ---- a run in a word

-- eight digits, and the run goes on
pub run_goes_on : (most digits : ℕ) → 255 < digits → digits < 2 ^ most
    → (8 < most) × (digits / 256 < 2 ^ (most - 8)) × (code_from_run (field most digits) ≡ doubled (field 8 (digits % 256)) ++ code_from_run (field (most - 8) (digits / 256)))
run_goes_on most digits some within =
    let long : 8 < most = ⊎_elim (search (rules, pow-le-pow_right)) (λ (nine : 9 ≤ most). nine) (cases_lt most 9) in
    let parts : most ≡ 8 + (most - 8) = omega (arith, long) in
    let power : 2 ^ most ≡ 2 ^ 8 * 2 ^ (most - 8) = ap (λ k. 2 ^ k) parts ∙ pow-add 2 8 (most - 8) in
    let below : digits / 256 < 2 ^ (most - 8) = omega (arith, power) in
    let run = run_doubled (field 8 digits) (field (most - 8) (digits / 256)) (has_one-field (most - 8) (digits / 256) (omega arith) below) in
    (long, below, cc (field-add 8 (most - 8) digits, run, field-mod 8 digits))

-- ---- a plane in a word

pub word_prefix : (size n v : ℕ) → n ≤ size → take n (field size v) ≡ field n v
word_prefix size n v within =
    let parts : size ≡ n + (size - n) = omega arith in
    ap (λ k. take n (field k v)) parts ∙ take-field n (size - n) v

pub word_behind : (size n v : ℕ) → n ≤ size → drop n (field size v) ≡ field (size - n) (v / 2 ^ n)
word_behind size n v within =
    let parts : size ≡ n + (size - n) = omega arith in
    ap (λ k. drop n (field k v)) parts ∙ drop-field n (size - n) v

-- all ranks have had a one
pub plane_whole : (size v : ℕ) → plane_code size (field size v) ≡ field size v
plane_whole size v = search (rules, word_prefix, word_behind, append-nil)

-- no one follows
pub plane_without : (size n v : ℕ) → n < size → v / 2 ^ n ≡ 0 → plane_code n (field size v) ≡ field (n + 1) v
plane_without size n v within none =
    let more : size - n ≡ suc (size - n - 1) = omega arith in search (rules, word_prefix, word_behind, field-zero, tail-zeros, field_more)

pub rest_small : (size n v : ℕ) → n ≤ size → v < 2 ^ size → v / 2 ^ n < 2 ^ (size - n)
rest_small size n v within small = search (rules, shr_below)

-- a one follows
pub plane_with : (size n v : ℕ) → n ≤ size → 0 < v / 2 ^ n → v < 2 ^ size → plane_code n (field size v) ≡ field n v ++ true ∷ code_from_run (field (size - n) (v / 2 ^ n))
plane_with size n v within some small = search (rules, word_prefix, word_behind, tail-some, has_one-field, rest_small)
