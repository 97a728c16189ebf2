-- The codes of blocks, one after another.
use Rattle.std.proofs.Common.{◌≡◌, ℕ, zero, suc, ◌+◌, Bool, List, [], ◌∷◌, ◌++◌, map, ap, arith, rules}
use Rattle.std.{proofs.lemmas.List.{append-nil, append_assoc, map_push, map-append}}
use Rattle.std.{proofs.lemmas.Grind.{flat_map-append}, specs.List.{flat_map}}
use Rattle.zf_spec.{proofs.Counting.{count_from-add}, specs.Grid.{count_from, upto}}

-- one number more
count_from-more : (k n : ℕ) → count_from k (n + 1) ≡ count_from k n ++ (k + n) ∷ []
count_from-more k zero = let here : k ≡ k + 0 = omega arith in ap (λ n. n ∷ []) here
count_from-more k (suc n) = grind (arith, count_from-more (suc k) n)

pub upto-more : (n : ℕ) → upto (n + 1) ≡ upto n ++ n ∷ []
upto-more n = grind (arith, count_from-more 0 n)

-- the lists of the numbers below n, joined, and one list more
pub joined-more : (f : ℕ → List Bool) (start : List Bool) (n : ℕ)
    → (start ++ flat_map (λ c. c) (map f (upto n))) ++ f n ≡ start ++ flat_map (λ c. c) (map f (upto (n + 1)))
joined-more f start n = search (rules, append-nil, append_assoc, flat_map-append, map_push, upto-more)

-- those behind the first ones
pub joined-prefix : (f : ℕ → List Bool) (k m : ℕ) → flat_map (λ c. c) (map f (upto (k + m))) ≡ flat_map (λ c. c) (map f (upto k)) ++ flat_map (λ c. c) (map f (count_from k m))
joined-prefix f k m = search (rules, count_from-add, map-append, flat_map-append)
