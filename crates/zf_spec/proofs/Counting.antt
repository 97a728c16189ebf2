-- The numbers from one number on, lists that a function makes of them, and lists of four.
use Rattle.std.proofs.Common.{rules, ◌≡◌, refl, sym, ap, ◌∙◌, ℕ, zero, suc, ◌+◌, ◌-◌, ◌<◌, ◌≤◌, List, [], ◌∷◌, ◌++◌, map, length, get_or, Contains, ext_get_or, arith}
use Rattle.std.{proofs.lemmas.List.{length-map, get_or-map}, specs.List.{range_with_len}}
use Rattle.std.proofs.lemmas.List.FromFn.{length-range_with_len, get_or-range_with_len}
use Rattle.zf_spec.specs.Grid.{count_from, upto}

-- std's word for the same list
count_from-range : (k n : ℕ) → count_from k n ≡ range_with_len k n
count_from-range k zero = refl
count_from-range k (suc n) = ap (λ ks. k ∷ ks) (count_from-range (suc k) n ∙ ap (λ j. range_with_len j n) (omega arith))

pub length-count_from : (k n : ℕ) → length (count_from k n) ≡ n
length-count_from k n = ap length (count_from-range k n) ∙ length-range_with_len k n

-- the numbers from k on begin with k
pub count_from-below : (k n : ℕ) → k < n → count_from k (n - k) ≡ k ∷ count_from (k + 1) (n - (k + 1))
count_from-below k n below = search rules

pub get_or-count_from : (k n i d : ℕ) → i < n → get_or (count_from k n) i d ≡ k + i
get_or-count_from k n i d h = ap (λ ks. get_or ks i d) (count_from-range k n) ∙ get_or-range_with_len k n i d h

pub count_from-add : (k m n : ℕ) → count_from k (m + n) ≡ count_from k m ++ count_from (k + m) n
count_from-add k zero n = let e : zero + n ≡ n = omega arith in let f : k + zero ≡ k = omega arith in rw (e, f) refl
count_from-add k (suc m) n =
    let e : suc m + n ≡ suc (m + n) = omega arith in
    let f : suc k + m ≡ k + suc m = omega arith in cc (count_from-add (suc k) m n)

-- what is among the numbers from k on, n of them, lies from k to below k + n
pub count_from_bounds : (k n q : ℕ) → Contains (count_from k n) q → (k ≤ q) × (q < k + n)
count_from_bounds k n q (i, h, e) = search (rules, length-count_from, get_or-count_from)

pub Contains-count_from : (k n q : ℕ) → k ≤ q → q < k + n → Contains (count_from k n) q
Contains-count_from k n q low high =
    (q - k, omega (arith, length-count_from k n), get_or-count_from k n (q - k) q (omega arith) ∙ omega arith)

pub length-upto : (n : ℕ) → length (upto n) ≡ n
length-upto n = length-count_from 0 n

pub get_or-upto : (n k d : ℕ) → k < n → get_or (upto n) k d ≡ k
get_or-upto n k d h = get_or-count_from 0 n k d h ∙ omega arith

pub length-map-upto {ℓ} : {X : Type ℓ} (f : ℕ → X) (n : ℕ) → length (map f (upto n)) ≡ n
length-map-upto f n = length-map (upto n) f ∙ length-upto n

pub get_or-map-upto : {X : Type 0} (f : ℕ → X) (n k : ℕ) (d : X) → k < n → get_or (map f (upto n)) k d ≡ f k
get_or-map-upto f n k d h =
    let small : k < length (upto n) = omega (arith, h, length-upto n) in
    get_or-map f (upto n) k 0 d small ∙ ap f (get_or-upto n k 0 h)

-- a list is what its elements are by place
pub from_places : {X : Type 0} (f : ℕ → X) (n : ℕ) (d : X) (xs : List X) → length xs ≡ n → ((k : ℕ) → k < n → get_or xs k d ≡ f k) → map f (upto n) ≡ xs
from_places f n d xs l h =
    let e = length-map-upto f n in
    ext_get_or d (map f (upto n)) xs (e ∙ sym l) (λ k s. let small : k < n = omega (arith, s, e) in get_or-map-upto f n k d small ∙ sym (h k small))

pub map-get_or-upto : {X : Type 0} (xs : List X) (n : ℕ) (d : X) → length xs ≡ n → map (λ k. get_or xs k d) (upto n) ≡ xs
map-get_or-upto xs n d l = from_places (λ k. get_or xs k d) n d xs l (λ k h. refl)

-- functions that agree below n make the same list of the numbers below n
pub map-upto_same : {X : Type 0} (f g : ℕ → X) (n : ℕ) → ((k : ℕ) → k < n → f k ≡ g k) → map f (upto n) ≡ map g (upto n)
map-upto_same {X} f g n h = ext_get_or (f 0) _ _ (length-map-upto f n ∙ sym (length-map-upto g n)) (λ k s. search (rules, get_or-map-upto, length-map-upto, h))

-- a list of four is that of its elements
pub four_elements : (xs : List ℕ) → length xs ≡ 4 → get_or xs 0 0 ∷ get_or xs 1 0 ∷ get_or xs 2 0 ∷ get_or xs 3 0 ∷ [] ≡ xs
four_elements xs four = map-get_or-upto xs 4 0 four
