-- Tables of planes of four digits, each entry of which is what the definitions say, by computation.
use Rattle.std.proofs.Common.{rules, ◌≡◌, ℕ, zero, suc, ◌+◌, ◌*◌, ◌/◌, ◌%◌, ◌^◌, ◌<◌, ◌≤◌, ⊎_elim, max, Bool, true, false, ◌&&◌, eqb, ltb, List, [], ◌∷◌, ◌++◌, get_or, refl, ap, subst, arith}
use Rattle.std.proofs.lemmas.Bool.{cases_lt, false≢true, and_parts, eqb-true, ltb-true}
use Rattle.zf_spec.{specs.Numbers.{field}, specs.Planes.{plane_code, reach}}
use Rattle.zf_planes.{specs.Fours.{IsCodeOfTwo}, specs.declared.entries.TheConstants.{PAIRS}}

-- ---- tests that compute

-- two lists of digits are the same
abbrev pub same_digits : List Bool → List Bool → Bool
same_digits [] [] = true
same_digits [] (y ∷ ys) = false
same_digits (x ∷ xs) [] = false
same_digits (true ∷ xs) (true ∷ ys) = same_digits xs ys
same_digits (true ∷ xs) (false ∷ ys) = false
same_digits (false ∷ xs) (true ∷ ys) = false
same_digits (false ∷ xs) (false ∷ ys) = same_digits xs ys

pub same_digits-true : (xs ys : List Bool) → same_digits xs ys ≡ true → xs ≡ ys
same_digits-true [] [] e = refl
same_digits-true [] (y ∷ ys) e = absurd (false≢true e)
same_digits-true (x ∷ xs) [] e = absurd (false≢true e)
same_digits-true (true ∷ xs) (true ∷ ys) e = ap (λ (bs : List Bool). true ∷ bs) (same_digits-true xs ys e)
same_digits-true (true ∷ xs) (false ∷ ys) e = absurd (false≢true e)
same_digits-true (false ∷ xs) (true ∷ ys) e = absurd (false≢true e)
same_digits-true (false ∷ xs) (false ∷ ys) e = ap (λ (bs : List Bool). false ∷ bs) (same_digits-true xs ys e)

-- a test of each number below k
abbrev pub each_below : (ℕ → Bool) → ℕ → Bool
each_below test zero = true
each_below test (suc k) = test k && each_below test k

pub each_below-true : (test : ℕ → Bool) (k i : ℕ) → each_below test k ≡ true → i < k → test i ≡ true
each_below-true test zero i all below = absurd (omega arith)
each_below-true test (suc k) i all below =
    let parts = and_parts (test k) (each_below test k) all in
    ⊎_elim
    (λ (early : i < k). each_below-true test k i parts.1 early)
    (λ (late : k ≤ i). let here : k ≡ i = omega arith in subst (λ j. test j ≡ true) here parts.0)
    (cases_lt i k)

-- ---- codes of two planes

-- an entry has the code of the digits of two planes, its length and how far the ones reach
abbrev test_code : ℕ → ℕ → ℕ → ℕ → ℕ → ℕ → Bool
test_code n first second l v a =
    same_digits (field l v) (plane_code n (field 4 first) ++ plane_code (max n (reach (field 4 first))) (field 4 second))
    && (ltb v (2 ^ l) && (ltb l 15 && (eqb a (max (max n (reach (field 4 first))) (reach (field 4 second))) && ltb a 5)))

pair_tested : (n string l v a : ℕ) → test_code n (string % 16) (string / 16 % 16) l v a ≡ true → IsCodeOfTwo n string l v a × (a < 5)
pair_tested n string l v a test = search (rules, and_parts, same_digits, same_digits-true, ltb-true, eqb-true)

abbrev test_pair : ℕ → ℕ → ℕ → ℕ → Bool
test_pair n first second e = test_code n first second (e / 16384 % 16) (e % 16384) (e / 262144)

test_pairs : each_below (λ i. test_pair (i / 256) (i % 16) (i / 16 % 16) (get_or PAIRS i 0)) 768 ≡ true
test_pairs = refl

pub pair_of_entry : (n string e : ℕ) → n < 3 → e ≡ get_or PAIRS (256 * n + string % 256) 0 → IsCodeOfTwo n string (e / 16384 % 16) (e % 16384) (e / 262144) × (e / 262144 < 5)
pair_of_entry n string e in_plane is =
    let i = 256 * n + string % 256 in
    let prefix : i / 256 ≡ n = omega arith in
    let low : i % 16 ≡ string % 16 = omega arith in
    let high : i / 16 % 16 ≡ string / 16 % 16 = omega arith in
    let here = each_below-true (λ j. test_pair (j / 256) (j % 16) (j / 16 % 16) (get_or PAIRS j 0)) 768 i test_pairs (omega arith) in
    let test : test_pair n (string % 16) (string / 16 % 16) e ≡ true = rw (← is, prefix, low, high) at here in
    pair_tested n string (e / 16384 % 16) (e % 16384) (e / 262144) test
